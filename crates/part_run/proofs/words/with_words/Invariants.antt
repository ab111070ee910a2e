use Rattle.std.proofs.Common.{◌≡◌, map, drop, string_bytes}
use Rattle.part_run.specs.Wanted.{with_words, no_settings}
use Rattle.part_run.specs.Spelled.{settings_of}
use Rattle.part_run.proofs.words.with_words.Given as goal

-- the settings so far and the words that are left give those of all words
abbrev pub invariant-loop-word : goal.invariant-loop-word
invariant-loop-word l =
    with_words (settings_of l.settings) (map string_bytes (drop l.word-index l.words)) ≡ with_words no_settings (map string_bytes l.words)
