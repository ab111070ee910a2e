-- A text that was put whole stays whole where the sink is flushed.
use Rattle.std.proofs.Common.{◌≡◌, ◌≢◌, Bool, false, subst, [], append-nil, refl, ℕ, List, length, sym, ◌∙◌}
use Rattle.std.proofs.Math.Seq.{take-length}
use Rattle.std.specs.Prelude.{Option, Some, None, Result, Ok, Err, OnOk, IsErr, MatchResult}
use Rattle.std.specs.Io.KnownBytes.{Appends, Keeps}
use Rattle.hg_io.specs.Faults.{Rose, HasCause}
use Rattle.hg_io.specs.Transfers.{AppendsPrefix, PutsAll}
use Rattle.part_run.specs.Answers.{Port, IsSent, IsCutOff, port_of}

kept : (a b c : Option (List ℕ)) (bs : List ℕ) → Appends a b bs → Keeps b c → Appends a c bs
kept None b c bs put same = tt
kept (Some xs) None c bs put same = absurd put
kept (Some xs) (Some ys) None bs put same = absurd same
kept (Some xs) (Some ys) (Some zs) bs put same = same ∙ put

whole : (a c : Option (List ℕ)) (bs : List ℕ) → Appends a c bs → AppendsPrefix a c bs
whole a c bs put = (length bs, rw take-length put)

-- the same text, spelt in another way
pub respelt : {T E : Type 0} {a b : Option (List ℕ)} {r : Result T E} {xs ys : List ℕ} → xs ≡ ys → PutsAll a b r xs → PutsAll a b r ys
respelt {a = a} {b = b} {r = r} e put = subst (λ (zs : List ℕ). PutsAll a b r zs) e put

-- a text that was put whole and is flushed
pub flushed : {T U E F : Type 0} {x : T} (a b c : Option (List ℕ)) (fa fb fc : ℕ) (ha hc : Bool) (bs : List ℕ) → bs ≢ [] → PutsAll {E = E} a b (Ok x) bs →
    fb ≡ fa
    → (r : Result U F) → Keeps b c → HasCause fb fc r → OnOk r (hc ≡ false)
    → MatchResult r (λ u. IsSent (port_of a fa ha) (port_of c fc hc) bs) (λ e. IsCutOff (port_of a fa ha) (port_of c fc hc) bs)
flushed a b c fa fb fc ha hc bs some put first (Ok u) same cause done = record {
  bytes = kept a b c bs put.ok same;
  faultless = cause.kept ∙ first;
  sent = λ e. done;
  uncalled = λ e. absurd (some e);
}
flushed a b c fa fb fc ha hc bs some put first (Err e) same cause done = record {
  some = some;
  fault = subst (λ f. Rose f fc) first cause.failed;
  bytes = whole a c bs (kept a b c bs put.ok same);
}

-- a put that failed
pub unput : {T U E F : Type 0} {e : E} (a b : Option (List ℕ)) (fa fb : ℕ) (ha hb : Bool) (bs : List ℕ) → bs ≢ [] → PutsAll {T = T} a b (Err e) bs →
    Rose fa fb → (r : Result U F) → IsErr r
    → MatchResult r (λ u. IsSent (port_of a fa ha) (port_of b fb hb) bs) (λ f. IsCutOff (port_of a fa ha) (port_of b fb hb) bs)
unput a b fa fb ha hb bs some put fault (Ok u) fails = cc
unput a b fa fb ha hb bs some put fault (Err f) fails = record { some = some; fault = fault; bytes = put.err }

appends_nothing : (a : Option (List ℕ)) → Appends a a []
appends_nothing None = tt
appends_nothing (Some xs) = sym (append-nil xs)

-- a sink that isn't called has got its empty text
pub uncalled : (p : Port) → IsSent p p []
uncalled p = record { bytes = appends_nothing p.bytes; faultless = refl; sent = λ e. absurd (e refl); uncalled = λ e. refl }
