-- A storage in memory has its sizes when it is opened.
use Rattle.std.proofs.Common.{◌≡◌, ◌∙◌, sym, subst, ℕ, zero, suc, ◌+◌, ◌<◌, List, replicate, length, get_or, Some, Result, Ok, Err, arith}
use Rattle.std.specs.Prelude.{IfOk}
use Rattle.std.proofs.lemmas.List.{length-replicate, length-map}
use Rattle.pcl_base.specs.Limits.{Sizes}
use Rattle.disk_model.specs.Disk.{HasSizes}
use Rattle.disk_model.specs.Memory.{Disk, LogDisk, bytes_in, rooms_in, no_log, opened}

all_same : {X : Type 0} (P : X → Type 0) (n : ℕ) (x : X) → P x → (k : ℕ) (d : X) → k < length (replicate n x) → P (get_or (replicate n x) k d)
all_same P zero x is k d less = absurd (omega (arith, less))
all_same P (suc n) x is zero d less = is
all_same P (suc n) x is (suc k) d less = all_same P n x is k d (omega (arith, less))

opened_fits : (c : Sizes) → HasSizes c (Some (opened c).pages) (Some (bytes_in (opened c).logs)) (Some (rooms_in (opened c).logs))
opened_fits c =
    let page : List ℕ = replicate (c.size + 16) 0 in
    record {
      pages_told = (length-replicate c.pages page, all_same (λ (b : List ℕ). length b ≡ c.size + 16) c.pages page (length-replicate (c.size + 16) 0));
      logs_told = length-map (replicate c.nodes no_log) (λ (l : LogDisk). l.bytes) ∙ length-replicate c.nodes no_log;
      rooms_told = length-map (replicate c.nodes no_log) (λ (l : LogDisk). l.room) ∙ length-replicate c.nodes no_log;
    }

opened_has : (c : Sizes) (d : Disk) → d ≡ opened c → HasSizes c (Some d.pages) (Some (bytes_in d.logs)) (Some (rooms_in d.logs))
opened_has c d is = subst (λ (x : Disk). HasSizes c (Some x.pages) (Some (bytes_in x.logs)) (Some (rooms_in x.logs))) (sym is) (opened_fits c)

pub opened_if : {E : Type 0} (c : Sizes) (r : Result Disk E) → IfOk r (λ d. d ≡ opened c) → IfOk r (λ d. HasSizes c (Some d.pages) (Some (bytes_in d.logs)) (Some (rooms_in d.logs)))
opened_if c (Ok d) is = opened_has c d is
opened_if c (Err e) is = tt
