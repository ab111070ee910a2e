-- A fault of a text is its first one: no line before it has a fault.
use Rattle.std.proofs.Common.{◌≡◌, if◌then◌else◌, ℕ, zero, suc, ◌+◌, ◌<◌, ◌≤◌, Bool, true, false, nat_le, List, [], ◌∷◌, length, take, drop}
use Rattle.std.proofs.Common.{replicate, get_or, Ok, Err, refl, sym, ap, ◌∙◌, subst, inl, inr, arith}
use Rattle.std.proofs.lemmas.List.{get_or-take, get_or-drop, drop-take, length-take, length-drop}
use Rattle.std.proofs.lemmas.Bool.{leb-true, leb-false, le-leb, lt-leb}
use Rattle.hg_defs.specs.declared.objective.TheConstants.{FREE}
use Rattle.hg_defs.specs.declared.objective.Objective.TheVariants.{Connectivity}
use Rattle.hg_defs.specs.Hypergraph.{Net, Hyper}
use Rattle.hg_text.specs.Kept.{Line, Reading, reading}
use Rattle.hmetis_read.specs.Graph.{Read, ◌>>=◌, each, guarded, header_in, net_in, nets_in, with_pins_before, pin_numbers, vertex_in}
use Rattle.hmetis_read.specs.Graph.{first_in, vertex_lines, weights_in, ended, body_in, graph_in, graph}
use Rattle.hmetis_read.specs.Laws.{IsFaultAt, HasNoFault, IsFirstFault, cut_off, no_line}
use Rattle.hmetis_read.specs.declared.fault.GraphFault.{GraphFault}
use Rattle.hmetis_read.specs.declared.fault.GraphFault.TheVariants.{Bad}
use Rattle.hmetis_read.specs.declared.fault.LineKind.TheVariants.{NoHeader, MissingLine, ExtraLine}
use Rattle.hmetis_read.specs.declared.header.Shape.{Shape}
use Rattle.hmetis_read.proofs.Placed.{FaultsAt, Holds, header_holds, net_holds, vertex_holds}

same_fault : {A : Type 0} (a b : GraphFault) → ◌≡◌ {A = Read A} (Err a) (Err b) → a ≡ b
same_fault a b e = cc

-- where a list is read from the left, the first fault is that of an element, and those before it are read
record IsStopped {A B : Type 0} (f : A → Read B) (xs : List A) (fault : GraphFault) : Type 0 where
  place : ℕ
  within : place < length xs
  element : (d : A) → f (get_or xs place d) ≡ Err fault
  before : (ys : List B) × (each f (take place xs) ≡ Ok ys)

stopped : {A B : Type 0} (f : A → Read B) (xs : List A) (fault : GraphFault) → each f xs ≡ Err fault → IsStopped f xs fault
stopped f [] fault e = cc
stopped {A = A} {B = B} f (x ∷ xs) fault e = by (λ q r. stopped f xs q r) (f x) refl
  where
    more : ((q : GraphFault) → each f xs ≡ Err q → IsStopped f xs q) → (y : B) → f x ≡ Ok y → (r : Read (List B)) → each f xs ≡ r →
        (r >>= λ ys. Ok (y ∷ ys)) ≡ Err fault → IsStopped f (x ∷ xs) fault
    more later y at (Ok ys) same q = cc
    more later y at (Err other) same q =
        let s = later fault (same ∙ ap Err (same_fault {A = List B} other fault q)) in
        record {
          place = suc s.place;
          within = let w = s.within in omega arith;
          element = λ d. s.element d;
          before = (
            y ∷ s.before.0,
            ap (λ (r : Read B). r >>= λ z. each f (take s.place xs) >>= λ ys. Ok (z ∷ ys)) at ∙
                ap (λ (r : Read (List B)). r >>= λ ys. Ok (y ∷ ys)) s.before.1,
          );
        }

    by : ((q : GraphFault) → each f xs ≡ Err q → IsStopped f xs q) → (r : Read B) → f x ≡ r → IsStopped f (x ∷ xs) fault
    by later (Ok y) at = more later y at (each f xs) refl (sym (ap (λ (r : Read B). r >>= λ z. each f xs >>= λ ys. Ok (z ∷ ys)) at) ∙ e)
    by later (Err other) at = record {
      place = zero;
      within = omega arith;
      element = λ d. at ∙ ap Err (same_fault {A = List B} other fault (sym (ap (λ (r : Read B). r >>= λ z. each f xs >>= λ ys. Ok (z ∷ ys)) at) ∙ e));
      before = ([], refl);
    }

-- what is read whole is read up to any place
read_before : {A B : Type 0} (f : A → Read B) (j : ℕ) (xs : List A) (ys : List B) → each f xs ≡ Ok ys → (zs : List B) × (each f (take j xs) ≡ Ok zs)
read_before f zero xs ys e = ([], refl)
read_before f (suc j) [] ys e = ([], refl)
read_before {A = A} {B = B} f (suc j) (x ∷ xs) ys e = by (λ zs q. read_before f j xs zs q) (f x) refl (each f xs) refl e
  where
    by : ((zs : List B) → each f xs ≡ Ok zs → (ws : List B) × (each f (take j xs) ≡ Ok ws)) → (r : Read B) → f x ≡ r → (rs : Read (List B)) →
        each f xs ≡ rs →
        each f (x ∷ xs) ≡ Ok ys
        → (zs : List B) × (each f (take (suc j) (x ∷ xs)) ≡ Ok zs)
    by later (Err fault) at rs same q = absurd (fails (sym (ap (λ (r : Read B). r >>= λ z. each f xs >>= λ zs. Ok (z ∷ zs)) at) ∙ q))
      where
        fails : ◌≡◌ {A = Read (List B)} (Err fault) (Ok ys) → ⊥
        fails r = cc
    by later (Ok y) at (Err fault) same q = absurd (fails (sym (ap (λ (r : Read B). r >>= λ z. each f xs >>= λ zs. Ok (z ∷ zs)) at ∙
        ap (λ (r : Read (List B)). r >>= λ zs. Ok (y ∷ zs)) same) ∙ q))
      where
        fails : ◌≡◌ {A = Read (List B)} (Err fault) (Ok ys) → ⊥
        fails r = cc
    by later (Ok y) at (Ok more) same q =
        let s = later more same in
        (y ∷ s.0, ap (λ (r : Read B). r >>= λ z. each f (take j xs) >>= λ zs. Ok (z ∷ zs)) at ∙ ap (λ (r : Read (List B)). r >>= λ zs. Ok (y ∷ zs)) s.1)

-- lines of nets with the pins before them, up to a place
pins_before-take : (shape : Shape) (b j : ℕ) (lines : List Line) → with_pins_before shape b (take j lines) ≡ take j (with_pins_before shape b lines)
pins_before-take shape b zero lines = refl
pins_before-take shape b (suc j) [] = refl
pins_before-take shape b (suc j) (line ∷ lines) = ap (λ rest. (b, line) ∷ rest) (pins_before-take shape (b + length (pin_numbers shape line)) j lines)

pins_before-length : (shape : Shape) (b : ℕ) (lines : List Line) → length (with_pins_before shape b lines) ≡ length lines
pins_before-length shape b [] = refl
pins_before-length shape b (line ∷ lines) = ap suc (pins_before-length shape (b + length (pin_numbers shape line)) lines)

pins_before-line : (shape : Shape) (b j : ℕ) (lines : List Line) (d : ℕ × Line) → j < length lines → (get_or (with_pins_before shape b lines) j d).1 ≡
    get_or
    lines j no_line
pins_before-line shape b j [] d l = absurd (omega arith)
pins_before-line shape b zero (line ∷ lines) d l = refl
pins_before-line shape b (suc j) (line ∷ lines) d l = pins_before-line shape (b + length (pin_numbers shape line)) j lines d (omega arith)

-- a fault of what is read at a line is that line's
fault_at : (text : Reading) (n : ℕ) → n < length text.kept → FaultsAt (IsFaultAt text n) (get_or text.kept n no_line).number
fault_at text n l = record { bad = λ kind. inl (l, refl); large = λ what. (l, refl) }

holds_of : {A : Type 0} (P : GraphFault → Type 0) (r : Read A) (fault : GraphFault) → Holds P r → r ≡ Err fault → P fault
holds_of P r fault h e = subst (λ q. Holds P q) e h

-- too few lines are read as so many and a missing one
few_lines : {A : Type 0} (m : ℕ) (read : List Line → Read A) (count : ℕ) (lines : List Line) (value : A) → length lines < m → read lines ≡ Ok value →
    (take m lines ≡ lines)
    → first_in m read (record { kept = lines; count = count }) ≡ Err (Bad (count + 1) MissingLine)
few_lines {A = A} m read count lines value few ok whole =
    ap (λ ls. read ls >>= λ values. guarded (nat_le m (length lines)) (Bad (count + 1) MissingLine) values) whole
    ∙ ap (λ (r : Read A). r >>= λ values. guarded (nat_le m (length lines)) (Bad (count + 1) MissingLine) values) ok
    ∙ ap (λ t. guarded t (Bad (count + 1) MissingLine) value) (lt-leb m (length lines) few)

enough_lines : {A : Type 0} (m : ℕ) (read : List Line → Read A) (count : ℕ) (lines : List Line) (value : A) → m ≤ length lines →
    read (take m lines) ≡ Ok value
    → first_in m read (record { kept = lines; count = count }) ≡ Ok value
enough_lines {A = A} m read count lines value enough ok =
    ap (λ (r : Read A). r >>= λ values. guarded (nat_le m (length lines)) (Bad (count + 1) MissingLine) values) ok
    ∙ ap (λ t. guarded t (Bad (count + 1) MissingLine) value) (le-leb m (length lines) enough)

take_less : {A : Type 0} (m j : ℕ) (xs : List A) → j ≤ m → take m (take j xs) ≡ take j xs
take_less m zero xs l = take-nil m
  where
    take-nil : {A : Type 0} (n : ℕ) → take {A = A} n [] ≡ []
    take-nil zero = refl
    take-nil (suc n) = refl
take_less m (suc j) [] l = take-nil m
  where
    take-nil : {A : Type 0} (n : ℕ) → take {A = A} n [] ≡ []
    take-nil zero = refl
    take-nil (suc n) = refl
take_less zero (suc j) (x ∷ xs) l = absurd (omega arith)
take_less (suc m) (suc j) (x ∷ xs) l = ap (λ ys. x ∷ ys) (take_less m j xs (omega arith))

take_more : {A : Type 0} (m j : ℕ) (xs : List A) → j ≤ m → take j (take m xs) ≡ take j xs
take_more m zero xs l = refl
take_more zero (suc j) xs l = absurd (omega arith)
take_more (suc m) (suc j) [] l = refl
take_more (suc m) (suc j) (x ∷ xs) l = ap (λ ys. x ∷ ys) (take_more m j xs (omega arith))

take_past : {A : Type 0} (m : ℕ) (xs : List A) → length xs ≤ m → take m xs ≡ xs
take_past zero [] l = refl
take_past zero (x ∷ xs) l = absurd (omega arith)
take_past (suc m) [] l = refl
take_past (suc m) (x ∷ xs) l = ap (λ ys. x ∷ ys) (take_past m xs (omega arith))

drop_past : {A : Type 0} (m : ℕ) (xs : List A) → length xs ≤ m → drop m xs ≡ []
drop_past zero [] l = refl
drop_past zero (x ∷ xs) l = absurd (omega arith)
drop_past (suc m) [] l = refl
drop_past (suc m) (x ∷ xs) l = drop_past m xs (omega arith)

-- a line is missing at the end, and the whole text has no other fault
missing_end : (text : Reading) (fault : GraphFault) → fault ≡ Bad (text.count + 1) MissingLine → graph_in text ≡ Err fault → IsFirstFault text fault
missing_end text fault is e = record {
  place = length text.kept;
  at = subst (IsFaultAt text (length text.kept)) (sym is) (inr (refl, refl));
  first = subst (HasNoFault text) (sym (ap (λ ls. graph_in (record { kept = ls; count = text.count }))
      (take_past (length text.kept) text.kept (omega arith)) ∙
      e ∙ ap Err is)) (refl, inr refl);
}

-- a text with a header that is read
module _ (c : ℕ) (line : Line) (lines : List Line) (shape : Shape) (header : header_in line ≡ Ok shape) (fault : GraphFault) where
  abbrev text : Reading
  text = record { kept = line ∷ lines; count = c }

  abbrev body : List Line → Read Hyper
  body ls = body_in shape (record { kept = ls; count = c })

  abbrev missing : {A : Type 0} → Read A
  missing = Err (Bad (c + 1) MissingLine)

  cut_is : (n : ℕ) → graph_in (cut_off (suc n) text) ≡ body (take n lines)
  cut_is n = ap (λ (r : Read Shape). r >>= λ s. body_in s (record { kept = take n lines; count = c })) header

  whole_is : graph_in text ≡ body lines
  whole_is = ap (λ (r : Read Shape). r >>= λ s. body_in s (record { kept = lines; count = c })) header

  -- the place of a line behind the header, where cutting the text off there leaves it with no fault
  found : (n : ℕ) → IsFaultAt text (suc n) fault → HasNoFault text (body (take n lines)) → IsFirstFault text fault
  found n at first = record { place = suc n; at = at; first = subst (HasNoFault text) (sym (cut_is n)) first }

  abbrev made_of : List Net → List ℕ → Hyper
  made_of nets weights = record { weights = weights; nets = nets; objective = Connectivity; fixes = replicate shape.vertices FREE }

  -- the weights and the end
  abbrev rest_of : List Net → List Line → Read Hyper
  rest_of nets ls =
      weights_in shape (record { kept = drop shape.nets ls; count = c }) >>= λ weights.
      ended (drop (vertex_lines shape) (drop shape.nets ls))
      (record { weights = weights; nets = nets; objective = Connectivity; fixes = replicate shape.vertices FREE })

  body_is : (ls : List Line) (nets : List Net) → first_in shape.nets (nets_in shape) (record { kept = ls; count = c }) ≡ Ok nets → body ls ≡ rest_of nets ls
  body_is ls nets e = ap (λ (r : Read (List Net)). r >>= λ ns. rest_of ns ls) e

  body_missing : (ls : List Line) → first_in shape.nets (nets_in shape) (record { kept = ls; count = c }) ≡ missing → HasNoFault text (body ls)
  body_missing ls e = subst (HasNoFault text) (sym (ap (λ (r : Read (List Net)). r >>= λ ns. rest_of ns ls) e)) (refl, inr refl)

  module _ (nets : List Net) (read : nets_in shape (take shape.nets lines) ≡ Ok nets) (enough : shape.nets ≤ length lines) where
    -- with so many lines or more, the nets are read
    nets_read : (n : ℕ) → first_in shape.nets (nets_in shape) (record { kept = take (shape.nets + n) lines; count = c }) ≡ Ok nets
    nets_read n =
        enough_lines shape.nets (nets_in shape) c (take (shape.nets + n) lines) nets (let l = length-take (shape.nets + n) lines in omega arith)
        (ap (nets_in shape) (take_more (shape.nets + n) shape.nets lines (omega arith)) ∙ read)

    cut_rest : (n : ℕ) → body (take (shape.nets + n) lines) ≡ rest_of nets (take (shape.nets + n) lines)
    cut_rest n = body_is (take (shape.nets + n) lines) nets (nets_read n)

    rest_lines : (n : ℕ) → drop shape.nets (take (shape.nets + n) lines) ≡ take n (drop shape.nets lines)
    rest_lines n = drop-take shape.nets n lines

    line_of : (n : ℕ) → get_or (drop shape.nets lines) n no_line ≡ get_or text.kept (suc (shape.nets + n)) no_line
    line_of n = get_or-drop shape.nets lines n no_line

    -- a line too many
    extra : (weights : List ℕ) → weights_in shape (record { kept = drop shape.nets lines; count = c }) ≡ Ok weights
        → weights_in shape (record { kept = take (vertex_lines shape) (drop shape.nets lines); count = c }) ≡ Ok weights
        → body lines ≡ Err fault → IsFirstFault text fault
    extra weights known cut_known e = by (drop (vertex_lines shape) (drop shape.nets lines)) refl (sym (whole ∙ ends) ∙ e)
      where
        whole : body lines ≡ rest_of nets lines
        whole = body_is lines nets (enough_lines shape.nets (nets_in shape) c lines nets enough read)

        ends : rest_of nets lines ≡ ended (drop (vertex_lines shape) (drop shape.nets lines)) (made_of nets weights)
        ends = ap (λ (r : Read (List ℕ)). r >>= λ ws. ended (drop (vertex_lines shape) (drop shape.nets lines))
            (record { weights = ws; nets = nets; objective = Connectivity; fixes = replicate shape.vertices FREE })) known

        cut_ends : rest_of nets (take (shape.nets + vertex_lines shape) lines) ≡ Ok (made_of nets weights)
        cut_ends =
            ap (λ ls. weights_in shape (record { kept = ls; count = c }) >>= λ ws. ended (drop (vertex_lines shape) ls)
            (record { weights = ws; nets = nets; objective = Connectivity; fixes = replicate shape.vertices FREE })) (rest_lines (vertex_lines shape))
            ∙ ap (λ (r : Read (List ℕ)). r >>= λ ws. ended (drop (vertex_lines shape) (take (vertex_lines shape) (drop shape.nets lines)))
            (record { weights = ws; nets = nets; objective = Connectivity; fixes = replicate shape.vertices FREE })) cut_known
            ∙ ap (λ ls. ended ls (made_of nets weights)) (drop_past (vertex_lines shape) (take (vertex_lines shape) (drop shape.nets lines))
            (let l = length-take (vertex_lines shape) (drop shape.nets lines) in omega arith))

        by : (ls : List Line) → drop (vertex_lines shape) (drop shape.nets lines) ≡ ls → ended (drop (vertex_lines shape) (drop shape.nets lines))
            (made_of nets weights) ≡ Err fault → IsFirstFault text fault
        by [] none q = absurd (fails (ap (λ ls. ended ls (made_of nets weights)) (sym none) ∙ q))
          where
            fails : ◌≡◌ {A = Read Hyper} (Ok (made_of nets weights)) (Err fault) → ⊥
            fails r = cc
        by (l ∷ ls) some q =
            let is : Bad l.number ExtraLine ≡ fault = same_fault {A = Hyper} (Bad l.number ExtraLine) fault
            (ap (λ ls. ended ls (made_of nets weights)) (sym some) ∙ q) in
            let long : shape.nets + vertex_lines shape < length lines =
            (let a = ap length some in let b = length-drop (vertex_lines shape) (drop shape.nets lines) in let d = length-drop shape.nets lines in
            omega arith) in
            let number : l.number ≡ (get_or text.kept (suc (shape.nets + vertex_lines shape)) no_line).number =
            ap (λ (x : Line). x.number) (ap (λ ls. get_or ls 0 no_line) (sym some) ∙ get_or-drop (vertex_lines shape) (drop shape.nets lines) 0 no_line ∙
            ap (λ n. get_or (drop shape.nets lines) n no_line) (omega arith) ∙ line_of (vertex_lines shape)) in
            found (shape.nets + vertex_lines shape) (subst (IsFaultAt text (suc (shape.nets + vertex_lines shape))) is (inl (omega arith, number)))
            (subst (HasNoFault text) (sym (cut_rest (vertex_lines shape) ∙ cut_ends)) tt)

    abbrev rest : List Line
    rest = drop shape.nets lines

    -- vertices' weights that are given
    weighed : shape.vertex_weights ≡ true → body lines ≡ Err fault → IsFirstFault text fault
    weighed given e = by (each vertex_in (take shape.vertices rest)) refl
      where
        weights_are : (ls : List Line) → weights_in shape (record { kept = ls; count = c }) ≡ first_in shape.vertices (each vertex_in)
            (record { kept = ls; count = c })
        weights_are ls = ap (λ t. if t then first_in shape.vertices (each vertex_in) (record { kept = ls; count = c }) else Ok (replicate shape.vertices 1))
            given

        lines_are : vertex_lines shape ≡ shape.vertices
        lines_are = ap (λ t. if t then shape.vertices else 0) given

        whole : body lines ≡ rest_of nets lines
        whole = body_is lines nets (enough_lines shape.nets (nets_in shape) c lines nets enough read)

        rest_missing : (ls : List Line) → first_in shape.vertices (each vertex_in) (record { kept = drop shape.nets ls; count = c }) ≡ missing →
            rest_of nets ls ≡ missing
        rest_missing ls q =
            ap (λ (r : Read (List ℕ)). r >>= λ ws. ended (drop (vertex_lines shape) (drop shape.nets ls))
            (record { weights = ws; nets = nets; objective = Connectivity; fixes = replicate shape.vertices FREE })) (weights_are (drop shape.nets ls) ∙ q)

        by : (r : Read (List ℕ)) → each vertex_in (take shape.vertices rest) ≡ r → IsFirstFault text fault
        by (Err other) same =
            let s = stopped vertex_in (take shape.vertices rest) other same in
            let lengths = length-take shape.vertices rest in
            let dropped = length-drop shape.nets lines in
            let low : s.place < shape.vertices = let w = s.within in omega arith in
            let inside : suc (shape.nets + s.place) < length text.kept = let w = s.within in omega arith in
            let is : other ≡ fault = err_same other (sym
            (ap (λ (r : Read (List ℕ)). r >>= λ values. guarded (nat_le shape.vertices (length rest)) (Bad (c + 1) MissingLine) values) same)) in
            let element : Line = get_or (take shape.vertices rest) s.place no_line in
            let line_is : element ≡ get_or text.kept (suc (shape.nets + s.place)) no_line = get_or-take shape.vertices rest s.place no_line low ∙
            line_of s.place in
            let at = holds_of (IsFaultAt text (suc (shape.nets + s.place))) (vertex_in element) fault
            (vertex_holds (IsFaultAt text (suc (shape.nets + s.place))) element
            (subst (λ (l : Line). FaultsAt (IsFaultAt text (suc (shape.nets + s.place))) l.number) (sym line_is)
            (fault_at text (suc (shape.nets + s.place)) inside)))
            (s.element no_line ∙ ap Err is) in
            let short : length (take s.place rest) < shape.vertices = let l = length-take s.place rest in omega arith in
            let few : first_in shape.vertices (each vertex_in) (record { kept = drop shape.nets (take (shape.nets + s.place) lines); count = c }) ≡
            missing =
            ap (λ ls. first_in shape.vertices (each vertex_in) (record { kept = ls; count = c })) (rest_lines s.place)
            ∙ few_lines shape.vertices (each vertex_in) c (take s.place rest) s.before.0 short
            (ap (each vertex_in) (sym (take_more shape.vertices s.place rest (omega arith))) ∙ s.before.1)
            (take_less shape.vertices s.place rest (omega arith)) in
            found (shape.nets + s.place) at
            (subst (HasNoFault text) (sym (cut_rest s.place ∙ rest_missing (take (shape.nets + s.place) lines) few)) (refl, inr refl))
          where
            err_same : (other : GraphFault) → Err other ≡ first_in shape.vertices (each vertex_in) (record { kept = rest; count = c }) → other ≡ fault
            err_same other q =
                same_fault {A = Hyper} other fault (ap (λ (r : Read (List ℕ)). r >>= λ ws. ended (drop (vertex_lines shape) rest)
                (record { weights = ws; nets = nets; objective = Connectivity; fixes = replicate shape.vertices FREE })) (q ∙ sym (weights_are rest)) ∙
                sym whole ∙ e)
        by (Ok weights) same = choose (nat_le shape.vertices (length rest)) refl
          where
            choose : (t : Bool) → nat_le shape.vertices (length rest) ≡ t → IsFirstFault text fault
            choose false q =
                let few = leb-false shape.vertices (length rest) q in
                let none : rest_of nets lines ≡ missing =
                rest_missing lines (few_lines shape.vertices (each vertex_in) c rest weights few
                (ap (each vertex_in) (sym (take_past shape.vertices rest (omega arith))) ∙ same) (take_past shape.vertices rest (omega arith))) in
                missing_end text fault (same_fault {A = Hyper} fault (Bad (c + 1) MissingLine) (sym e ∙ whole ∙ none)) (whole_is ∙ e)
            choose true q =
                let enough_weights = leb-true shape.vertices (length rest) q in
                extra weights (weights_are rest ∙ enough_lines shape.vertices (each vertex_in) c rest weights enough_weights same)
                (weights_are (take (vertex_lines shape) rest)
                ∙ ap (λ n. first_in shape.vertices (each vertex_in) (record { kept = take n rest; count = c })) lines_are
                ∙ enough_lines shape.vertices (each vertex_in) c (take shape.vertices rest) weights (let l = length-take shape.vertices rest in omega arith)
                (ap (each vertex_in) (take_less shape.vertices shape.vertices rest (omega arith)) ∙ same))
                e

    unweighed : shape.vertex_weights ≡ false → body lines ≡ Err fault → IsFirstFault text fault
    unweighed none e =
        let ones : (ls : List Line) → weights_in shape (record { kept = ls; count = c }) ≡ Ok (replicate shape.vertices 1) =
        λ ls. ap (λ t. if t then first_in shape.vertices (each vertex_in) (record { kept = ls; count = c }) else Ok (replicate shape.vertices 1)) none in
        extra (replicate shape.vertices 1) (ones (drop shape.nets lines)) (ones (take (vertex_lines shape) (drop shape.nets lines))) e

    behind : (t : Bool) → shape.vertex_weights ≡ t → body lines ≡ Err fault → IsFirstFault text fault
    behind true given e = weighed given e
    behind false none e = unweighed none e

  -- the nets
  headed : body lines ≡ Err fault → IsFirstFault text fault
  headed e = by (nets_in shape (take shape.nets lines)) refl
    where
      by : (r : Read (List Net)) → nets_in shape (take shape.nets lines) ≡ r → IsFirstFault text fault
      by (Err other) same =
          let pairs = with_pins_before shape 0 (take shape.nets lines) in
          let s = stopped (net_in shape) pairs other same in
          let count = pins_before-length shape 0 (take shape.nets lines) in
          let lengths = length-take shape.nets lines in
          let low : s.place < shape.nets = let w = s.within in omega arith in
          let inside : suc s.place < length text.kept = let w = s.within in omega arith in
          let is : other ≡ fault = err_same other same in
          let none : ℕ × Line = (0, no_line) in
          let line_is : (get_or pairs s.place none).1 ≡ get_or text.kept (suc s.place) no_line =
          pins_before-line shape 0 s.place (take shape.nets lines) none (let w = s.within in omega arith) ∙ get_or-take shape.nets lines s.place no_line
          low in
          let at = holds_of (IsFaultAt text (suc s.place)) (net_in shape (get_or pairs s.place none)) fault
          (net_holds (IsFaultAt text (suc s.place)) shape (get_or pairs s.place none)
          (subst (λ (l : Line). FaultsAt (IsFaultAt text (suc s.place)) l.number)
          (sym line_is) (fault_at text (suc s.place) inside)))
          (s.element none ∙ ap Err is) in
          let read : nets_in shape (take s.place lines) ≡ Ok s.before.0 =
          ap (each (net_in shape)) (ap (with_pins_before shape 0) (sym (take_more shape.nets s.place lines (omega arith))) ∙
          pins_before-take shape 0 s.place
          (take shape.nets lines)) ∙ s.before.1 in
          found s.place at
          (body_missing (take s.place lines)
          (few_lines shape.nets (nets_in shape) c (take s.place lines) s.before.0 (let l = length-take s.place lines in omega arith) read
          (take_less shape.nets s.place lines (omega arith))))
        where
          err_same : (other : GraphFault) → nets_in shape (take shape.nets lines) ≡ Err other → other ≡ fault
          err_same other q = same_fault {A = Hyper} other fault
              (sym (ap (λ (r : Read (List Net)). (r >>= λ values. guarded (nat_le shape.nets (length lines)) (Bad (c + 1) MissingLine) values) >>= λ ns.
              rest_of ns lines) q) ∙ e)
      by (Ok nets) same = choose (nat_le shape.nets (length lines)) refl
        where
          choose : (t : Bool) → nat_le shape.nets (length lines) ≡ t → IsFirstFault text fault
          choose false q =
              let few = leb-false shape.nets (length lines) q in
              let short : first_in shape.nets (nets_in shape) (record { kept = lines; count = c }) ≡ missing =
              few_lines shape.nets (nets_in shape) c lines nets few (ap (nets_in shape) (sym (take_past shape.nets lines (omega arith))) ∙ same)
              (take_past shape.nets lines (omega arith)) in
              let none : body lines ≡ missing = ap (λ (r : Read (List Net)). r >>= λ ns. rest_of ns lines) short in
              missing_end text fault (same_fault {A = Hyper} fault (Bad (c + 1) MissingLine) (sym e ∙ none)) (whole_is ∙ e)
          choose true q = behind nets same (leb-true shape.nets (length lines) q) shape.vertex_weights refl e

first_of : (c : ℕ) (kept : List Line) (fault : GraphFault) → graph_in (record { kept = kept; count = c }) ≡ Err fault →
    IsFirstFault (record { kept = kept; count = c }) fault
first_of c [] fault e = record {
  place = 0;
  at = subst (IsFaultAt (record { kept = []; count = c }) 0) is (inr (refl, refl));
  first = (refl, inl refl);
}
  where
    is : Bad (c + 1) NoHeader ≡ fault
    is = cc
first_of c (line ∷ lines) fault e = by (header_in line) refl
  where
    by : (r : Read Shape) → header_in line ≡ r → IsFirstFault (record { kept = line ∷ lines; count = c }) fault
    by (Ok shape) at = headed c line lines shape at fault (sym (whole_is c line lines shape at fault) ∙ e)
    by (Err other) at = record {
      place = 0;
      at = holds_of (IsFaultAt (record { kept = line ∷ lines; count = c }) 0) (header_in line) fault
          (header_holds (IsFaultAt (record { kept = line ∷ lines; count = c }) 0) line (fault_at (record { kept = line ∷ lines; count = c }) 0
          (omega arith)))
          (at ∙ ap Err (is at));
      first = (refl, inl refl);
    }
      where
        is : header_in line ≡ Err other → other ≡ fault
        is q = same_fault {A = Hyper} other fault (sym (ap (λ (r : Read Shape). r >>= λ s. body_in s (record { kept = lines; count = c })) q) ∙ e)

pub faults_first : (bytes : List ℕ) (fault : GraphFault) → graph bytes ≡ Err fault → IsFirstFault (reading bytes) fault
faults_first bytes fault e = first_of (reading bytes).count (reading bytes).kept fault e
