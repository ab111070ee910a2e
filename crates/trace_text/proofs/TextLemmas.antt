-- Texts that are written line by line: what is written, and what is left.
use Rattle.std.proofs.Common.{◌≡◌, ℕ, List, ◌++◌, sym, ap, ◌∙◌, append_assoc}
use Rattle.std.specs.Prelude.{Option, Ok, Err}
use Rattle.hg_io.specs.declared.traits.Failed.{Failed}
use Rattle.hg_io.specs.Transfers.{Writes}
use Rattle.hg_io.proofs.PenLemmas.{wrote, cut, spelt}

-- of a text all but the rest went through the pen, without a fault
pub record IsWritten (old new : Option (List ℕ)) (faults faults' : ℕ) (held holds text rest : List ℕ) : Type 0 where
  pub written : List ℕ
  pub writes : Writes {T = Unit {0}} {E = Failed} old new held holds (Ok tt) written
  pub text_is : text ≡ written ++ rest
  pub faultless : faults' ≡ faults

with_line : (text written rest line later : List ℕ) → text ≡ written ++ rest → rest ≡ line ++ later → text ≡ (written ++ line) ++ later
with_line text written rest line later e f = e ∙ ap (λ (l : List ℕ). written ++ l) f ∙ sym (append_assoc written line later)

-- one more line went through
pub line-written : {old mid new : Option (List ℕ)} {faults faults' faults'' : ℕ} {held holds holds' text rest line later : List ℕ} {x : Unit {0}} →
    rest ≡ line ++ later → IsWritten old mid faults faults' held holds text rest → Writes {E = Failed} mid new holds holds' (Ok x) line → faults'' ≡ faults' →
    IsWritten old new faults faults'' held holds' text later
line-written {text = text} {rest = rest} {line = line} {later = later} step before write same = record {
  written = before.written ++ line;
  writes = wrote before.writes write;
  text_is = with_line text before.written rest line later before.text_is step;
  faultless = same ∙ before.faultless;
}

-- the next line failed
pub line-failed : {old mid new : Option (List ℕ)} {faults faults' : ℕ} {held holds holds' text rest line : List ℕ} {e : Failed} (later : List ℕ) →
    rest ≡ line ++ later → IsWritten old mid faults faults' held holds text rest → Writes {T = Unit {0}} mid new holds holds' (Err e) line →
    Writes {T = Unit {0}} old new held holds' (Err e) text
line-failed {text = text} {rest = rest} {line = line} later step before write =
    spelt (sym (with_line text before.written rest line later before.text_is step)) (cut later (wrote before.writes write))
