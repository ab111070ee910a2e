-- What the words of settings spell, said of all of them together and not one after the other.
use Rattle.std.specs.Prelude.{◌≡◌, ℕ, ◌+◌, ◌-◌, ◌^◌, ◌<◌, ◌≤◌, ◌⊎◌, List, [], ◌∷◌, length, All, Option, Some}
use Rattle.std.specs.Prelude.{None, IsSome, option_and_then, codes, bytes_eq, if◌then◌else◌}
use Rattle.std.specs.List.{position_or_len, before_first, after_first}
use Rattle.std.specs.Option.{option_or}
use Rattle.part_run.specs.declared.words.Mode.{Mode}
use Rattle.part_run.specs.Wanted.{Settings, no_settings, with_words, is_equals, number_within, file_name, plain_name, objective_of}
use Rattle.part_run.specs.Wanted.{named_mode, raced_mode}

-- a word's key stands before its equals sign, and its value behind it
abbrev pub key_of : List ℕ → List ℕ
key_of word = before_first is_equals word

abbrev pub value_of : List ℕ → List ℕ
value_of word = after_first is_equals word

-- the value of the first word with a key, if there is one
abbrev pub value_for : List ℕ → List (List ℕ) → Option (List ℕ)
value_for key [] = None
value_for key (word ∷ words) = if bytes_eq (key_of word) key then Some (value_of word) else value_for key words

-- how many words have a key
abbrev pub words_with : List ℕ → List (List ℕ) → ℕ
words_with key [] = 0
words_with key (word ∷ words) = (if bytes_eq (key_of word) key then 1 else 0) + words_with key words

-- what each key's value may be
abbrev pub seed_in : List ℕ → Option ℕ
seed_in value = number_within 0 (2 ^ 64 - 1) value

abbrev pub workers_in : List ℕ → Option ℕ
workers_in value = number_within 1 64 value

-- how many words set the mode, which two keys do, and the mode that they spell
abbrev pub mode_words : List (List ℕ) → ℕ
mode_words words = words_with (codes "mode") words + words_with (codes "cycles") words

abbrev pub mode_spelled : List (List ℕ) → Option Mode
mode_spelled words =
    option_or (option_and_then named_mode (value_for (codes "mode") words)) (option_and_then raced_mode (value_for (codes "cycles") words))

-- the word has an equals sign, one of the seven keys, and a value that this key may have
pub record IsSetting (word : List ℕ) : Type 0 where
  pub sign : position_or_len is_equals word < length word
  pub key : ((key_of word ≡ codes "seed") × IsSome (seed_in (value_of word)))
      ⊎ (((key_of word ≡ codes "workers") × IsSome (workers_in (value_of word)))
      ⊎ (((key_of word ≡ codes "out") × IsSome (file_name (value_of word)))
      ⊎ (((key_of word ≡ codes "cost") × IsSome (objective_of (value_of word)))
      ⊎ (((key_of word ≡ codes "fix") × IsSome (plain_name (value_of word)))
      ⊎ (((key_of word ≡ codes "mode") × IsSome (named_mode (value_of word)))
      ⊎ ((key_of word ≡ codes "cycles") × IsSome (raced_mode (value_of word))))))))

-- no key stands twice, and of the keys that set the mode one at most
pub record StandOnce (words : List (List ℕ)) : Type 0 where
  pub seed : words_with (codes "seed") words ≤ 1
  pub workers : words_with (codes "workers") words ≤ 1
  pub out : words_with (codes "out") words ≤ 1
  pub cost : words_with (codes "cost") words ≤ 1
  pub fix : words_with (codes "fix") words ≤ 1
  pub mode : mode_words words ≤ 1

-- each setting is what the word with its key spells, and unset where there is none
pub record AreSpelled (words : List (List ℕ)) (s : Settings) : Type 0 where
  pub seed : s.seed ≡ option_and_then seed_in (value_for (codes "seed") words)
  pub workers : s.workers ≡ option_and_then workers_in (value_for (codes "workers") words)
  pub out : s.out ≡ option_and_then file_name (value_for (codes "out") words)
  pub cost : s.cost ≡ option_and_then objective_of (value_for (codes "cost") words)
  pub fix : s.fix ≡ option_and_then plain_name (value_for (codes "fix") words)
  pub mode : s.mode ≡ mode_spelled words

-- ---- the laws

-- words that are taken are settings, none of them twice
abbrev pub TakenWordsAreSettings : Type 0
TakenWordsAreSettings = (words : List (List ℕ)) (s : Settings) → with_words no_settings words ≡ Some s → All IsSetting words

abbrev pub TakenWordsStandOnce : Type 0
TakenWordsStandOnce = (words : List (List ℕ)) (s : Settings) → with_words no_settings words ≡ Some s → StandOnce words

-- and they set what they spell
abbrev pub TakenWordsAreSpelled : Type 0
TakenWordsAreSpelled = (words : List (List ℕ)) (s : Settings) → with_words no_settings words ≡ Some s → AreSpelled words s

-- all such words are taken, in whatever order
abbrev pub SettingsAreTaken : Type 0
SettingsAreTaken = (words : List (List ℕ)) → All IsSetting words → StandOnce words → IsSome (with_words no_settings words)
