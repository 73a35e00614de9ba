mod Entries
mod Sound
