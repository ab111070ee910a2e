-- The numbers of workers and of cycles are within their bounds.
use Rattle.std.proofs.Common.{◌≡◌, ℕ, ◌≤◌, Bool, true, false, if◌then◌else◌, List, refl, sym, subst, arith}
use Rattle.std.specs.Prelude.{Option, Some, None, Result, Ok, Err, option_map, option_and_then, unwrap_or, nat_le, ◌&&◌, codes, bytes_eq}
use Rattle.std.specs.Option.{option_or}
use Rattle.std.proofs.lemmas.Bool.{leb-true}
use Rattle.hg_text.specs.declared.numeral.BadNumber.{BadNumber}
use Rattle.hg_text.specs.Kept.{number_of}
use Rattle.part_run.specs.declared.words.Mode.{Mode}
use Rattle.part_run.specs.declared.words.Mode.TheVariants.{Raced, Deterministic}
use Rattle.part_run.specs.Wanted.{Settings, no_settings, with_words, within, named_mode, raced_mode}
use Rattle.part_run.specs.Spelled.{HasFewCycles}
use Rattle.part_run.specs.WordLaws.{value_for, workers_in}
use Rattle.part_run.proofs.WordLaws.{taken-spelled}

pub within_bounds : (low high : ℕ) (r : Result ℕ BadNumber) (n : ℕ) → within low high r ≡ Some n → (low ≤ n) × (n ≤ high)
within_bounds low high (Err e) n is = cc
within_bounds low high (Ok m) n is = by (nat_le low m) (nat_le m high) refl refl is
  where
    by : (a b : Bool) → nat_le low m ≡ a → nat_le m high ≡ b → (if a && b then Some m else None) ≡ Some n → (low ≤ n) × (n ≤ high)
    by true true above below e =
        let same : m ≡ n = cc in
        let least = leb-true low m above in
        let most = leb-true m high below in
        (omega arith, omega arith)
    by true false above below e = cc
    by false b above below e = cc

pub workers_within : (words : List (List ℕ)) (s : Settings) → with_words no_settings words ≡ Some s →
    (1 ≤ unwrap_or s.workers 4) × (unwrap_or s.workers 4 ≤ 64)
workers_within words s taken = by s.workers (value_for _ words) (taken-spelled words s taken).workers
  where
    by : (o : Option ℕ) (v : Option (List ℕ)) → o ≡ option_and_then workers_in v → (1 ≤ unwrap_or o 4) × (unwrap_or o 4 ≤ 64)
    by None v e = (omega arith, omega arith)
    by (Some n) None e = cc
    by (Some n) (Some value) e = within_bounds 1 64 (number_of value) n (sym e)

raced_few : (o : Option ℕ) (m : Mode) → ((n : ℕ) → o ≡ Some n → n ≤ 8) → option_map Raced o ≡ Some m → HasFewCycles m
raced_few None m few e = cc
raced_few (Some n) m few e = let same : Raced n ≡ m = cc in subst HasFewCycles same (few n refl)

named_few : (b : Bool) (m : Mode) → (if b then Some Deterministic else None) ≡ Some m → HasFewCycles m
named_few true m e = let same : Deterministic ≡ m = cc in subst HasFewCycles same tt
named_few false m e = cc

pub cycles_within : (words : List (List ℕ)) (s : Settings) → with_words no_settings words ≡ Some s → HasFewCycles (unwrap_or s.mode (Raced 0))
cycles_within words s taken = by s.mode (value_for (codes "mode") words) (value_for (codes "cycles") words) (taken-spelled words s taken).mode
  where
    raced : (w : Option (List ℕ)) (m : Mode) → option_and_then raced_mode w ≡ Some m → HasFewCycles m
    raced None m e = cc
    raced (Some value) m e = raced_few (within 0 8 (number_of value)) m (λ n is. (within_bounds 0 8 (number_of value) n is).1) e

    by : (o : Option Mode) (v w : Option (List ℕ)) → o ≡ option_or (option_and_then named_mode v) (option_and_then raced_mode w) →
        HasFewCycles (unwrap_or o (Raced 0))
    by None v w e = omega arith
    by (Some m) None w e = raced w m (sym e)
    by (Some m) (Some value) w e = named (bytes_eq value (codes "det")) refl (sym e)
      where
        named : (b : Bool) → bytes_eq value (codes "det") ≡ b →
            option_or (if b then Some Deterministic else None) (option_and_then raced_mode w) ≡ Some m → HasFewCycles m
        named true is f = named_few true m f
        named false is f = raced w m f
