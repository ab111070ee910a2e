-- A text that spells a hypergraph has a line for each net and each weighted vertex behind its header, and no more.
use Rattle.std.proofs.Common.{◌≡◌, ℕ, suc, ◌+◌, ◌-◌, ◌≤◌, ◌⊎◌, Bool, true, false, nat_le, if◌then◌else◌, List, [], ◌∷◌}
use Rattle.std.proofs.Common.{length, take, drop, replicate, Ok, Err, refl, sym, ◌∙◌, ap, arith, inl, inr}
use Rattle.std.proofs.lemmas.Bool.{leb-true}
use Rattle.std.proofs.lemmas.List.{length-drop, length-take-le, length-replicate}
use Rattle.hg_defs.specs.Hypergraph.{Hyper, net_count, vertex_count}
use Rattle.hg_text.specs.Kept.{Line, Reading, reading}
use Rattle.hmetis_read.specs.Graph.{Read, ◌>>=◌, each, guarded, header_in, net_in, nets_in, with_pins_before, pin_numbers, vertex_in, first_in}
use Rattle.hmetis_read.specs.Graph.{read_on, weights_in, vertex_lines, ended, body_in, first_line, shape_of, graph}
use Rattle.hmetis_read.specs.Laws.{HasLines}
use Rattle.hmetis_read.specs.declared.fault.GraphFault.{GraphFault}
use Rattle.hmetis_read.specs.declared.header.Shape.{Shape}

abbrev read : {A : Type 0} → A → Read A
read value = Ok value

abbrev failed : {A : Type 0} → GraphFault → Read A
failed fault = Err fault

pub ok_same : {A : Type 0} (x y : A) → read x ≡ Ok y → x ≡ y
ok_same x y e = cc

pub err_ok : {A : Type 0} (fault : GraphFault) (y : A) → failed fault ≡ Ok y → ⊥
err_ok fault y e = cc

-- what was read before a value
pub bind_ok : {A B : Type 0} (r : Read A) (f : A → Read B) (y : B) → (r >>= f) ≡ Ok y → (x : A) × (r ≡ Ok x) × (f x ≡ Ok y)
bind_ok (Ok x) f y e = (x, refl, e)
bind_ok (Err fault) f y e = absurd (err_ok fault y e)

pub guarded_ok : {A : Type 0} (test : Bool) (fault : GraphFault) (x y : A) → guarded test fault x ≡ Ok y → (test ≡ true) × (x ≡ y)
guarded_ok true fault x y e = (refl, ok_same x y e)
guarded_ok false fault x y e = absurd (err_ok fault y e)

pub each_length : {A B : Type 0} (f : A → Read B) (xs : List A) (ys : List B) → each f xs ≡ Ok ys → length ys ≡ length xs
each_length f [] ys e = ap length (sym (ok_same [] ys e))
each_length f (x ∷ xs) ys e =
    let one = bind_ok (f x) (λ y. each f xs >>= λ zs. Ok (y ∷ zs)) ys e in
    let more = bind_ok (each f xs) (λ zs. Ok (one.0 ∷ zs)) ys one.2 in
    ap length (sym (ok_same (one.0 ∷ more.0) ys more.2)) ∙ ap suc (each_length f xs more.0 more.1)

nets_length : (shape : Shape) (before : ℕ) (lines : List Line) → length (with_pins_before shape before lines) ≡ length lines
nets_length shape before [] = refl
nets_length shape before (line ∷ lines) = ap suc (nets_length shape (before + length (pin_numbers shape line)) lines)

-- as many values as lines were wanted, and so many lines there are
first_ok : {A : Type 0} (count : ℕ) (read : List Line → Read (List A)) (text : Reading) (ys : List A) → ((ls : List Line) (zs : List A) → read ls ≡ Ok zs →
    length zs ≡ length ls) → first_in count read text ≡ Ok ys → (length ys ≡ count) × (count ≤ length text.kept)
first_ok count read text ys sizes e =
    let some = bind_ok (read (take count text.kept)) _ ys e in
    let enough = guarded_ok (nat_le count (length text.kept)) _ some.0 ys some.2 in
    let most : count ≤ length text.kept = leb-true count (length text.kept) enough.0 in
    (ap length (sym enough.1) ∙ sizes (take count text.kept) some.0 some.1 ∙ length-take-le count text.kept most, most)

ended_ok : {A : Type 0} (ls : List Line) (x y : A) → ended ls x ≡ Ok y → (length ls ≡ 0) × (x ≡ y)
ended_ok [] x y e = (refl, ok_same x y e)
ended_ok (line ∷ ls) x y e = absurd (err_ok _ y e)

-- the weights of all vertices, and the lines that they take
weights_ok : (shape : Shape) (text : Reading) (ws : List ℕ) → weights_in shape text ≡ Ok ws → (length ws ≡ shape.vertices) ×
    (vertex_lines shape ≤ length text.kept) × ((vertex_lines shape ≡ 0) ⊎ (vertex_lines shape ≡ shape.vertices))
weights_ok shape text ws e = by_cases shape.vertex_weights e where
  by_cases : (b : Bool) → (if b then first_in shape.vertices (each vertex_in) text else Ok (replicate shape.vertices 1)) ≡ Ok ws →
      (length ws ≡ shape.vertices) × ((if b then shape.vertices else 0) ≤ length text.kept) ×
      (((if b then shape.vertices else 0) ≡ 0) ⊎ ((if b then shape.vertices else 0) ≡ shape.vertices))
  by_cases true h = let some = first_ok shape.vertices (each vertex_in) text ws (each_length vertex_in) h in (some.0, some.1, inr refl)
  by_cases false h = (ap length (sym (ok_same (replicate shape.vertices 1) ws h)) ∙ length-replicate shape.vertices 1, omega arith, inl refl)

first_line_ok : (count : ℕ) (ls : List Line) (line : Line) → first_line count ls ≡ Ok line → length ls ≡ 1 + length (drop 1 ls)
first_line_ok count [] line e = absurd (err_ok _ line e)
first_line_ok count (first ∷ ls) line e = omega arith

body_lines : (shape : Shape) (text : Reading) (h : Hyper) → body_in shape text ≡ Ok h → (length text.kept ≡ net_count h) ⊎
    (length text.kept ≡ net_count h + vertex_count h)
body_lines shape text h e =
    let nets = bind_ok (first_in shape.nets (nets_in shape) text) _ h e in
    let weights = bind_ok (weights_in shape (read_on shape.nets text)) _ h nets.2 in
    let end = ended_ok (read_on (vertex_lines shape) (read_on shape.nets text)).kept _ h weights.2 in
    let some = first_ok shape.nets (nets_in shape) text nets.0
    (λ ls zs r. each_length (net_in shape) (with_pins_before shape 0 ls) zs r ∙ nets_length shape 0 ls) nets.1 in
    let vertices = weights_ok shape (read_on shape.nets text) weights.0 weights.1 in
    let all_nets : net_count h ≡ shape.nets = sym (ap (λ (g : Hyper). length g.nets) end.1) ∙ some.0 in
    let all_vertices : vertex_count h ≡ shape.vertices = sym (ap (λ (g : Hyper). length g.weights) end.1) ∙ vertices.0 in
    let rest : length (drop shape.nets text.kept) ≡ length text.kept - shape.nets = length-drop shape.nets text.kept in
    let last : length (drop (vertex_lines shape) (drop shape.nets text.kept)) ≡ length (drop shape.nets text.kept) - vertex_lines shape = length-drop
    (vertex_lines shape) (drop shape.nets text.kept) in
    elim vertices.2 [
      | inl none ↦ inl (omega (arith, some.1, end.0, vertices.1))
      | inr full ↦ inr (omega (arith, some.1, end.0, vertices.1))
    ]

pub lines_counted : (bytes : List ℕ) (h : Hyper) → graph bytes ≡ Ok h → HasLines (reading bytes) h
lines_counted bytes h e =
    let shape = bind_ok (shape_of (reading bytes)) _ h e in
    let header = bind_ok (first_line (reading bytes).count (reading bytes).kept) header_in shape.0 shape.1 in
    let one : length (reading bytes).kept ≡ 1 + length (drop 1 (reading bytes).kept) = first_line_ok (reading bytes).count (reading bytes).kept header.0
    header.1 in
    elim (body_lines shape.0 (read_on 1 (reading bytes)) h shape.2) [ inl n ↦ inl (omega arith) | inr n ↦ inr (omega arith) ]
