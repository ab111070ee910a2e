-- Forming a region: vertices taken one after the other.
use Rattle.std.proofs.Common.{◌≡◌, ◌≢◌, ℕ, ◌+◌, ◌-◌, ◌<◌, ◌≤◌, Bool, true, false, not, nat_eq, nat_le, nat_lt}
use Rattle.std.proofs.Common.{if◌then◌else◌, List, [], ◌∷◌, ◌++◌, length, filter, drop}
use Rattle.std.proofs.Common.{get_or, refl, sym, ap, ◌∙◌, arith, All, true≢false}
use Rattle.std.specs.List.{list_any}
use Rattle.std.proofs.lemmas.List.{drop_more, drop_all, append-nil}
use Rattle.std.proofs.lemmas.Bool.{lt-ltb, lt-leb, eqb-true, eqb-false}
use Rattle.std.proofs.lemmas.List.Elements.{All-head, All-tail, All-append}
use Rattle.hg_defs.specs.Hypergraph.{Hyper, vertices, vertex_count, weight_of}
use Rattle.hg_defs.specs.Partition.{block_of, load}
use Rattle.hg_defs.specs.Pins.{pins_in}
use Rattle.round_log.specs.Rounds.{taken, is_near, is_next, side}
use Rattle.flow_pair.specs.Sides.{TakesAll, WeighsAtLeast}
use Rattle.flow_pair.proofs.PairLaws.{has_pin-count}
use Rattle.flow_pair.proofs.NetLaws.{kept_below}

-- ---- a net with pins in a block

pub no_pin : (p pins : List ℕ) (b n : ℕ) → n ≡ pins_in p pins b → n ≡ 0 → list_any (λ v. nat_eq (block_of p v) b) pins ≡ false
no_pin p pins b n e z = has_pin-count p pins b ∙ ap (nat_lt 0) (sym e ∙ z)

pub some_pin : (p pins : List ℕ) (b n : ℕ) → n ≡ pins_in p pins b → n ≢ 0 → list_any (λ v. nat_eq (block_of p v) b) pins ≡ true
some_pin p pins b n e z = has_pin-count p pins b ∙ lt-ltb 0 (pins_in p pins b) (omega arith)

pub pins_told : (p pins : List ℕ) (b n : ℕ) → n ≡ pins_in p pins b → not (nat_eq n 0) ≡ list_any (λ v. nat_eq (block_of p v) b) pins
pins_told p pins b n e = by (nat_eq n 0) refl
  where
    by : (t : Bool) → nat_eq n 0 ≡ t → not t ≡ list_any (λ v. nat_eq (block_of p v) b) pins
    by true z = sym (no_pin p pins b n e (eqb-true n 0 z))
    by false z = sym (some_pin p pins b n e (eqb-false n 0 z))

-- ---- vertices taken

pub take_next : (h : Hyper) (left left' room i : ℕ) (vertices list list' start : List ℕ) → i < length vertices
    → TakesAll h left (get_or vertices i 0 ∷ []) list list' left'
    → ((vs : List ℕ) → list ++ taken h left (drop i vertices ++ vs) ≡ start ++ taken h room (vertices ++ vs))
    → (vs : List ℕ) → list' ++ taken h left' (drop (i + 1) vertices ++ vs) ≡ start ++ taken h room (vertices ++ vs)
take_next h left left' room i vertices list list' start l one all vs =
    one (drop (i + 1) vertices ++ vs) ∙ ap (λ xs. list ++ taken h left (xs ++ vs)) (sym (drop_more vertices i 0 l)) ∙ all vs

pub take_last : (h : Hyper) (left room i : ℕ) (vertices list start : List ℕ) → length vertices ≤ i
    → ((vs : List ℕ) → list ++ taken h left (drop i vertices ++ vs) ≡ start ++ taken h room (vertices ++ vs)) → TakesAll h room vertices start list left
take_last h left room i vertices list start l all vs = ap (λ xs. list ++ taken h left (xs ++ vs)) (sym (drop_all i vertices l)) ∙ all vs

-- vertices that are taken after others
pub taken_all : (h : Hyper) (room left : ℕ) (vs start end : List ℕ) → TakesAll h room vs start end left → end ≡ start ++ taken h room vs
taken_all h room left vs start end all = sym (append-nil end) ∙ all [] ∙ ap (λ xs. start ++ taken h room xs) (append-nil vs)

-- a side: near vertices, then next ones
pub side_taken : (h : Hyper) (l : ℕ) (p : List ℕ) (a b room left : ℕ) (near start mid end : List ℕ) → near ≡ filter (is_near h p a b) (vertices h)
    → room ≡ l - load h p b → TakesAll h room near start mid left → end ≡ mid ++ taken h left (filter (is_next h p a b) (vertices h))
    → end ≡ start ++ side h l p a b
side_taken h l p a b room left near start mid end e r first last =
    let next = filter (is_next h p a b) (vertices h) in
    last ∙ first next ∙ ap (λ n. start ++ taken h n (near ++ next)) r ∙ ap (λ xs. start ++ taken h (l - load h p b) (xs ++ next)) e

-- where no vertex has room, none is taken
pub taken_none : (h : Hyper) (least room : ℕ) (vs : List ℕ) → WeighsAtLeast h least → room < least → All (λ v. v < vertex_count h) vs → taken h room vs ≡ []
taken_none h least room [] weighs short below = refl
taken_none h least room (v ∷ vs) weighs short below =
    by (nat_le (weight_of h v) room) (lt-leb (weight_of h v) room (let w = weighs v (All-head (λ u. u < vertex_count h) v vs below) in omega arith))
    (taken_none h least room vs weighs short (All-tail (λ u. u < vertex_count h) v vs below))
  where
    by : (t : Bool) → t ≡ false → taken h room vs ≡ []
        → (let later = taken h (if t then room - weight_of h v else room) vs in if t then v ∷ later else later) ≡ []
    by true e rest = absurd (true≢false e)
    by false e rest = rest

-- so a side is empty where there is no room for any, and ends with the near ones where none is left
pub side_none : (h : Hyper) (l : ℕ) (p : List ℕ) (a b room least : ℕ) (start : List ℕ) → WeighsAtLeast h least → room ≡ l - load h p b → room < least
    → start ≡ start ++ side h l p a b
side_none h l p a b room least start weighs r short =
    let none = taken_none h least (l - load h p b) (filter (is_near h p a b) (vertices h) ++ filter (is_next h p a b) (vertices h)) weighs (omega arith)
    (All-append (λ v. v < vertex_count h) (filter (is_near h p a b) (vertices h)) (filter (is_next h p a b) (vertices h))
    (kept_below (is_near h p a b) (vertex_count h)) (kept_below (is_next h p a b) (vertex_count h))) in
    sym (append-nil start) ∙ ap (λ xs. start ++ xs) (sym none)

pub side_near : (h : Hyper) (l : ℕ) (p : List ℕ) (a b room left least : ℕ) (near start end : List ℕ) → WeighsAtLeast h least
    → near ≡ filter (is_near h p a b) (vertices h) → room ≡ l - load h p b → TakesAll h room near start end left → left < least
    → end ≡ start ++ side h l p a b
side_near h l p a b room left least near start end weighs e r first short =
    let next = filter (is_next h p a b) (vertices h) in
    let none = taken_none h least left next weighs short (kept_below (is_next h p a b) (vertex_count h)) in
    let last : end ++ [] ≡ start ++ taken h room (near ++ next) = ap (λ xs. end ++ xs) (sym none) ∙ first next in
    sym (append-nil end) ∙ last ∙ ap (λ n. start ++ taken h n (near ++ next)) r ∙ ap (λ xs. start ++ taken h (l - load h p b) (xs ++ next)) e
