-- The words that ask for one node over frames, and which words are a form at all.
use Rattle.std.specs.Prelude.{ℕ, ◌+◌, ◌==◌, ◌&&◌, ◌||◌, Bool, nat_le, List, length, codes, is_some, Option, Some}
use Rattle.std.specs.Cmp.Lexicographic.{pointwise}
use Rattle.pcl_base.specs.Limits.{Sizes}
use Rattle.text_rules.specs.ReadLine.{◌>>=◌, where_true}
use Rattle.pcl_cli.specs.Words.{totals_of}
use Rattle.pcl_cli.specs.MakeWords.{word_at, number_of_word, sizes_at, job_of}

-- a node that is asked for: its number, and the configuration that has it
pub record NodeJob : Type 0 where
  pub me : ℕ
  pub sizes : Sizes

-- how many frames one node reads at most
abbrev pub most_frames : ℕ
most_frames = 1000000000

-- whether the words are six and the first of them is `node`
abbrev pub is_node : List (List ℕ) → Bool
is_node words = length words == 6 && pointwise ◌==◌ (word_at words 0) (codes "node")

-- the numbers behind the word `node`: a node, and a configuration that has it
abbrev pub node_numbers_of : List (List ℕ) → Option NodeJob
node_numbers_of words = do
  node ← number_of_word 0 15 (word_at words 1)
  sizes ← sizes_at words 2
  me ← where_true (nat_le (node + 1) sizes.nodes) node
  Some (record { me = me; sizes = sizes })

-- the node that the words ask for, where they are this form
abbrev pub node_job_of : List (List ℕ) → Option NodeJob
node_job_of words = do
  form ← where_true (is_node words) words
  node_numbers_of form

-- whether the words are a form
abbrev pub is_form : List (List ℕ) → Bool
is_form words = is_some (totals_of words) || (is_some (job_of words) || is_some (node_job_of words))
