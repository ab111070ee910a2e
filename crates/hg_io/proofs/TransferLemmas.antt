-- What a sink got over several transfers.
use Rattle.std.proofs.Common.{◌≡◌, ℕ, ◌+◌, min, List, [], ◌++◌, ◌-◌, length, take, drop, sym, ap, subst, ◌∙◌}
use Rattle.std.proofs.Common.{append_assoc, append-nil, arith, take_all, length-drop}
use Rattle.std.proofs.Math.Seq.{take-add, take-append-add}
use Rattle.std.proofs.lemmas.List.{take-append-le, take_min}
use Rattle.std.specs.Prelude.{Option, Result, Ok, Err, IsErr}
use Rattle.std.specs.Io.KnownBytes.{Appends}
use Rattle.std.proofs.KnownBytes.{Appends-nil, Appends-trans}
use Rattle.hg_io.specs.Transfers.{AppendsPrefix, PutsAll, Passes, Writes}

-- the slice from i on is what stands behind the first i
range_from : (bs : List ℕ) (i : ℕ) → take (length bs - i) (drop i bs) ≡ drop i bs
range_from bs i = take_all (length bs - i) (drop i bs) (omega (arith, length-drop i bs))

-- the first i bytes of bs, and then n more of the slice from there on
pub Appends-taken : (a b c : Option (List ℕ)) (bs : List ℕ) (i n : ℕ) → Appends a b (take i bs) → Appends b c (take n (take (length bs - i) (drop i bs))) →
    Appends a c (take (i + n) bs)
Appends-taken a b c bs i n first second =
    let joined : take i bs ++ take n (take (length bs - i) (drop i bs)) ≡ take (i + n) bs =
    ap (λ l. take i bs ++ take n l) (range_from bs i) ∙ sym (take-add i n bs) in
    subst (Appends a c) joined (Appends-trans a b c (take i bs) _ first second)

-- a prefix of bs is a prefix of what begins with bs
pub AppendsPrefix-more : (a b : Option (List ℕ)) (bs cs : List ℕ) → AppendsPrefix a b bs → AppendsPrefix a b (bs ++ cs)
AppendsPrefix-more a b bs cs part =
    let n = min part.0 (length bs) in
    let same : take part.0 bs ≡ take n (bs ++ cs) =
    sym (take_min part.0 bs) ∙ sym (take-append-le n bs cs (omega arith)) in
    (n, subst (Appends a b) same part.1)

-- all of bs, and then a prefix of cs
pub AppendsPrefix-after : (a b c : Option (List ℕ)) (bs cs : List ℕ) → Appends a b bs → AppendsPrefix b c cs → AppendsPrefix a c (bs ++ cs)
AppendsPrefix-after a b c bs cs whole part =
    let n = part.0 in
    (length bs + n, subst (Appends a c) (sym (take-append-add bs cs n)) (Appends-trans a b c bs (take n cs) whole part.1))

-- nothing went through the pen
pub Passes-nil : (a : Option (List ℕ)) (held : List ℕ) → Passes a a held held []
Passes-nil a held = ([], (Appends-nil a, sym (append-nil held)))

-- one text and then the next went through the pen
pub Passes-trans : (a b c : Option (List ℕ)) (held mid holds bs cs : List ℕ) → Passes a b held mid bs → Passes b c mid holds cs →
    Passes a c held holds (bs ++ cs)
Passes-trans a b c held mid holds bs cs first second =
    let put = first.0 in
    let next = second.0 in
    let joined : (put ++ next) ++ holds ≡ held ++ (bs ++ cs) =
    append_assoc put next holds ∙ ap (λ l. put ++ l) second.1.1 ∙ sym (append_assoc put mid cs) ∙ ap (λ l. l ++ cs) first.1.1 ∙ append_assoc held bs cs in
    (put ++ next, (Appends-trans a b c put next first.1.0 second.1.0, joined))

-- a text went through the pen, and then a write failed
pub Passes-failed : (a b c : Option (List ℕ)) (held mid bs cs : List ℕ) → Passes a b held mid bs → AppendsPrefix b c (mid ++ cs) →
    AppendsPrefix a c (held ++ (bs ++ cs))
Passes-failed a b c held mid bs cs first part =
    let put = first.0 in
    let joined : put ++ (mid ++ cs) ≡ held ++ (bs ++ cs) =
    sym (append_assoc put mid cs) ∙ ap (λ l. l ++ cs) first.1.1 ∙ append_assoc held bs cs in
    subst (AppendsPrefix a c) joined (AppendsPrefix-after a b c put (mid ++ cs) first.1.0 part)

-- a write after a text that went through the pen
pub Writes-after : {T E : Type 0} → (a b c : Option (List ℕ)) (held mid holds bs cs : List ℕ) (r : Result T E) → Passes a b held mid bs →
    Writes b c mid holds r cs → Writes a c held holds r (bs ++ cs)
Writes-after a b c held mid holds bs cs (Ok x) first second =
    record { ok = Passes-trans a b c held mid holds bs cs first second.ok; err = tt }
Writes-after a b c held mid holds bs cs (Err e) first second =
    record { ok = tt; err = Passes-failed a b c held mid bs cs first second.err }

-- a write failed before the rest of the text was tried
pub Writes-cut : {T E : Type 0} → (a b : Option (List ℕ)) (held holds bs cs : List ℕ) (r : Result T E) → IsErr r → AppendsPrefix a b (held ++ bs) →
    Writes a b held holds r (bs ++ cs)
Writes-cut a b held holds bs cs (Ok x) err part = cc
Writes-cut a b held holds bs cs (Err e) err part =
    record { ok = tt; err = subst (AppendsPrefix a b) (append_assoc held bs cs) (AppendsPrefix-more a b (held ++ bs) cs part) }

-- what the pen held did not all go, and the text was not tried
pub Writes-unsent : {T E : Type 0} → (a b : Option (List ℕ)) (held holds bs : List ℕ) (r : Result T E) → IsErr r → AppendsPrefix a b held →
    Writes a b held holds r bs
Writes-unsent a b held holds bs (Ok x) err part = cc
Writes-unsent a b held holds bs (Err e) err part = record { ok = tt; err = AppendsPrefix-more a b held bs part }

-- what the pen held went first, and then the text past the pen
pub Writes-past : {T E : Type 0} → (a b c : Option (List ℕ)) (held holds bs : List ℕ) (r : Result T E) → Appends a b held → holds ≡ [] → PutsAll b c r bs →
    Writes a c held holds r bs
Writes-past a b c held holds bs (Ok x) sent none put =
    let joined : (held ++ bs) ++ holds ≡ held ++ bs = ap (λ l. (held ++ bs) ++ l) none ∙ append-nil (held ++ bs) in
    record { ok = (held ++ bs, (Appends-trans a b c held bs sent put.ok, joined)); err = tt }
Writes-past a b c held holds bs (Err e) sent none put =
    record { ok = tt; err = AppendsPrefix-after a b c held bs sent put.err }

-- a text went through an empty pen, and then the pen's end came
pub PutsAll-end : {T E : Type 0} → (a b c : Option (List ℕ)) (holds bs : List ℕ) (r : Result T E) → Passes a b [] holds bs → PutsAll b c r holds →
    PutsAll a c r bs
PutsAll-end a b c holds bs (Ok x) first last =
    record { ok = subst (Appends a c) first.1.1 (Appends-trans a b c first.0 holds first.1.0 last.ok); err = tt }
PutsAll-end a b c holds bs (Err e) first last =
    record { ok = tt; err = subst (AppendsPrefix a c) first.1.1 (AppendsPrefix-after a b c first.0 holds first.1.0 last.err) }

-- one text was put whole, and then the next was tried
pub PutsAll-after : {T E : Type 0} → (a b c : Option (List ℕ)) (bs cs : List ℕ) (r : Result T E) → Appends a b bs → PutsAll b c r cs →
    PutsAll a c r (bs ++ cs)
PutsAll-after a b c bs cs (Ok x) first last = record { ok = Appends-trans a b c bs cs first last.ok; err = tt }
PutsAll-after a b c bs cs (Err e) first last = record { ok = tt; err = AppendsPrefix-after a b c bs cs first last.err }

-- a text failed before the rest was tried
pub PutsAll-cut : {T E : Type 0} → (a b : Option (List ℕ)) (bs cs : List ℕ) (r : Result T E) → IsErr r → AppendsPrefix a b bs → PutsAll a b r (bs ++ cs)
PutsAll-cut a b bs cs (Ok x) err part = cc
PutsAll-cut a b bs cs (Err e) err part = record { ok = tt; err = AppendsPrefix-more a b bs cs part }
