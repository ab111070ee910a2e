-- Texts that go through a pen in several writes, up to a write that fails.
use Rattle.std.proofs.Common.{◌≡◌, ℕ, List, [], ◌++◌, refl, subst}
use Rattle.std.specs.Prelude.{Option, Result, Ok, Err, IsErr}
use Rattle.hg_io.specs.Transfers.{AppendsPrefix, Passes, PutsAll, Writes}
use Rattle.hg_io.proofs.TransferLemmas.{PutsAll-end, Writes-after, Writes-cut}

-- a write behind another one
pub wrote : {T E : Type 0} {a b c : Option (List ℕ)} {held mid holds bs cs : List ℕ} {x : T} {r : Result T E} → Writes {E = E} a b held mid (Ok x) bs →
    Writes b c mid holds r cs → Writes a c held holds r (bs ++ cs)
wrote first second = Writes-after _ _ _ _ _ _ _ _ _ first.ok second

-- a write failed before the rest of the text was tried
pub cut : {T E : Type 0} {a b : Option (List ℕ)} {held holds bs : List ℕ} {e : E} (cs : List ℕ) → Writes {T = T} a b held holds (Err e) bs →
    Writes {T = T} a b held holds (Err e) (bs ++ cs)
cut {e = e} cs failed = Writes-cut _ _ _ _ _ cs (Err e) refl failed.err

-- the same at the exit of the function
pub exit : {T U E F : Type 0} {a b : Option (List ℕ)} {held holds bs : List ℕ} {e : F} (r : Result T E) → IsErr r → Writes {T = U} a b held holds (Err e)
    bs →
    Writes a b held holds r bs
exit (Ok x) fails failed = cc
exit (Err d) fails failed = record { ok = tt; err = failed.err }

-- a pen that began empty is at its end
pub ended : {T E : Type 0} {a b c : Option (List ℕ)} {held holds bs : List ℕ} {x : T} (r : Result T E) → held ≡ [] → Writes {E = E} a b held holds (Ok x)
    bs →
    PutsAll b c r holds → PutsAll a c r bs
ended {a = a} {b = b} {c = c} {holds = holds} {bs = bs} r empty before last =
    PutsAll-end a b c holds bs r (subst (λ (l : List ℕ). Passes a b l holds bs) empty before.ok) last

-- a pen that began empty failed
pub unfinished : {T U E F : Type 0} {a b : Option (List ℕ)} {held holds bs : List ℕ} {e : F} (r : Result T E) → IsErr r → held ≡ [] →
    Writes {T = U} a b held holds (Err e) bs → PutsAll a b r bs
unfinished (Ok x) fails empty failed = cc
unfinished {a = a} {b = b} {bs = bs} (Err d) fails empty failed =
    record { ok = tt; err = subst (λ (l : List ℕ). AppendsPrefix a b (l ++ bs)) empty failed.err }

-- the same write, of a text that is spelt in another way
pub spelt : {T E : Type 0} {a b : Option (List ℕ)} {held holds bs cs : List ℕ} {r : Result T E} → bs ≡ cs → Writes a b held holds r bs →
    Writes a b held holds r cs
spelt {a = a} {b = b} {held = held} {holds = holds} {r = r} is write = subst (λ (l : List ℕ). Writes a b held holds r l) is write
