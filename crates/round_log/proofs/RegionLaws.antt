-- The laws of the region of a pair of blocks.
use Rattle.std.proofs.Common.{◌≡◌, ◌⊎◌, inl, inr, ℕ, ◌+◌, ◌-◌, ◌≤◌, Bool, true, false, ◌&&◌, ◌||◌, not, nat_eq, nat_le, if◌then◌else◌, List, []}
use Rattle.std.proofs.Common.{◌∷◌, ◌++◌, length, filter, Contains, Decides, refl, sym, ap, subst, ◌∙◌, arith, true≢false}
use Rattle.std.specs.List.{list_any}
use Rattle.std.proofs.lemmas.Bool.{and_parts, and_from, eqb-true, eq-eqb, leb-true, le-leb}
use Rattle.std.proofs.lemmas.Cmp.{nat_cmp_total}
use Rattle.std.proofs.lemmas.List.Elements.{All-append, All-weaker, filter_passes, Contains-append_cases, Contains-append_left, Contains-append_right}
use Rattle.hg_defs.specs.declared.objective.TheConstants.{FREE}
use Rattle.hg_defs.specs.Sums.{total}
use Rattle.hg_defs.specs.Hypergraph.{Net, Hyper, fix_of, is_free, vertices, weight_of}
use Rattle.hg_defs.specs.Partition.{block_of, load}
use Rattle.hg_defs.proofs.SortLaws.{Contains_head, Contains_later, Contains-cons_cases, Contains-nil, Contains-set_of}
use Rattle.hg_defs.proofs.SortLaws.{Contains-from_set_of, nat_cmp_exact, increasing-set_of}
use Rattle.hg_defs.proofs.PlacementLaws.{Contains_filter}
use Rattle.hg_defs.proofs.NumberingLaws.{Contains-from_filter}
use Rattle.round_log.specs.Rounds.{has_pin, holds, touching, is_near, is_next, taken, side}
use Rattle.round_log.specs.RegionLaws.{HasPin, IsNear, IsNext, TouchingHasBoth, NearIsTold, NextIsTold, TakesWhileRoom}
use Rattle.round_log.specs.RegionLaws.{SideFits, SideIsRanked, RegionHasSides, RegionRises}
use Rattle.round_log.proofs.FlowLaws.{All-taken}

-- ---- some element passes

any_is : {A : Type 0} (test : A → Bool) (xs : List A) → list_any test xs ≡ true → (x : A) × Contains xs x × (test x ≡ true)
any_is test [] e = absurd (true≢false (sym e))
any_is {A} test (x ∷ xs) e = by (test x) refl e (any_is test xs)
  where
    by : (b : Bool) → test x ≡ b → (b || list_any test xs) ≡ true → (list_any test xs ≡ true → (y : A) × Contains xs y × (test y ≡ true)) →
        (y : A) × Contains (x ∷ xs) y × (test y ≡ true)
    by true f g rest = (x, Contains_head x xs, f)
    by false f g rest = let r = rest g in (r.0, Contains_later x xs r.0 r.1, r.2)

any_from : {A : Type 0} (test : A → Bool) (xs : List A) (x : A) → Contains xs x → test x ≡ true → list_any test xs ≡ true
any_from test [] x c e = absurd (Contains-nil x c)
any_from test (y ∷ ys) x c e = by (Contains-cons_cases y ys x c) (any_from test ys x)
  where
    second : (a b : Bool) → b ≡ true → (a || b) ≡ true
    second true b f = refl
    second false b f = f

    by : (y ≡ x) ⊎ Contains ys x → (Contains ys x → test x ≡ true → list_any test ys ≡ true) → (test y || list_any test ys) ≡ true
    by (inl f) rest = ap (λ (b : Bool). b || list_any test ys) (ap test f ∙ e)
    by (inr d) rest = second (test y) (list_any test ys) (rest d e)

-- ---- nets and their pins

has_pin-told : (p : List ℕ) (e : Net) (b : ℕ) → Decides (has_pin p e b) (HasPin p e b)
has_pin-told p e b = (
  λ t. let x = any_is (λ v. nat_eq (block_of p v) b) e.pins t in (x.0, x.1, eqb-true (block_of p x.0) b x.2),
  λ x. any_from (λ v. nat_eq (block_of p v) b) e.pins x.0 x.1 (eq-eqb (block_of p x.0) b x.2),
)

holds-told : (e : Net) (v : ℕ) → Decides (holds e v) (Contains e.pins v)
holds-told e v = (
  λ t. let x = any_is (nat_eq v) e.pins t in subst (Contains e.pins) (sym (eqb-true v x.0 x.2)) x.1,
  λ c. any_from (nat_eq v) e.pins v c (eq-eqb v v refl),
)

pub touching_has_both : TouchingHasBoth
touching_has_both h p a b e = (
  λ c.
      let x = Contains-from_filter (λ (n : Net). has_pin p n a && has_pin p n b) h.nets e c in
      let both = and_parts (has_pin p e a) (has_pin p e b) x.1 in
      (x.0, (has_pin-told p e a).0 both.0, (has_pin-told p e b).0 both.1),
  λ x. Contains_filter (λ (n : Net). has_pin p n a && has_pin p n b) h.nets e x.0 (and_from (has_pin p e a) (has_pin p e b) ((has_pin-told p e a).1 x.1)
      ((has_pin-told p e b).1 x.2)),
)

-- ---- the two ranks

pub near_is_told : NearIsTold
near_is_told h p a b v = (to, from)
  where
    to : is_near h p a b v ≡ true → IsNear h p a b v
    to t =
        let first = and_parts (is_free h v && nat_eq (block_of p v) a) (list_any (λ (e : Net). holds e v) (touching h p a b)) t in
        let parts = and_parts (is_free h v) (nat_eq (block_of p v) a) first.0 in
        let net = any_is (λ (e : Net). holds e v) (touching h p a b) first.1 in
        let both = (touching_has_both h p a b net.0).0 net.1 in
        record {
          free = eqb-true (fix_of h v) FREE parts.0;
          block = eqb-true (block_of p v) a parts.1;
          net = (net.0, both.0, (holds-told net.0 v).0 net.2, both.1, both.2);
        }

    from : IsNear h p a b v → is_near h p a b v ≡ true
    from n =
        and_from (is_free h v && nat_eq (block_of p v) a) (list_any (λ (e : Net). holds e v) (touching h p a b))
        (and_from (is_free h v) (nat_eq (block_of p v) a) (eq-eqb (fix_of h v) FREE n.free) (eq-eqb (block_of p v) a n.block))
        (any_from (λ (e : Net). holds e v) (touching h p a b) n.net.0 ((touching_has_both h p a b n.net.0).1 (n.net.1, n.net.3, n.net.4))
        ((holds-told n.net.0 v).1 n.net.2))

pub next_is_told : NextIsTold
next_is_told h p a b v = (to, from)
  where
    reaches : Net → Bool
    reaches e = nat_le (length e.pins) 1000 && holds e v && list_any (is_near h p a b) e.pins

    not_near : (t : Bool) → Decides t (IsNear h p a b v) → not t ≡ true → IsNear h p a b v → ⊥
    not_near true d e n = true≢false (sym e)
    not_near false d e n = true≢false (sym (d.1 n))

    to : is_next h p a b v ≡ true → IsNext h p a b v
    to t =
        let first = and_parts (is_free h v && nat_eq (block_of p v) a && not (is_near h p a b v))
        (list_any (λ (e : Net). nat_le (length e.pins) 1000 && holds e v && list_any (is_near h p a b) e.pins) h.nets) t in
        let second = and_parts (is_free h v && nat_eq (block_of p v) a) (not (is_near h p a b v)) first.0 in
        let parts = and_parts (is_free h v) (nat_eq (block_of p v) a) second.0 in
        let net = any_is (λ (e : Net). nat_le (length e.pins) 1000 && holds e v && list_any (is_near h p a b) e.pins) h.nets first.1 in
        let last = and_parts (nat_le (length net.0.pins) 1000 && holds net.0 v) (list_any (is_near h p a b) net.0.pins) net.2 in
        let small = and_parts (nat_le (length net.0.pins) 1000) (holds net.0 v) last.0 in
        let near = any_is (is_near h p a b) net.0.pins last.1 in
        record {
          free = eqb-true (fix_of h v) FREE parts.0;
          block = eqb-true (block_of p v) a parts.1;
          other = not_near (is_near h p a b v) (near_is_told h p a b v) second.1;
          net = (
            net.0,
            net.1,
            leb-true (length net.0.pins) 1000 small.0,
            (holds-told net.0 v).0 small.1,
            (near.0, near.1, (near_is_told h p a b near.0).0 near.2),
          );
        }

    not_from : (t : Bool) → Decides t (IsNear h p a b v) → (IsNear h p a b v → ⊥) → not t ≡ true
    not_from true d n = absurd (n (d.0 refl))
    not_from false d n = refl

    from : IsNext h p a b v → is_next h p a b v ≡ true
    from n =
        and_from (is_free h v && nat_eq (block_of p v) a && not (is_near h p a b v))
        (list_any (λ (e : Net). nat_le (length e.pins) 1000 && holds e v && list_any (is_near h p a b) e.pins) h.nets)
        (and_from (is_free h v && nat_eq (block_of p v) a) (not (is_near h p a b v))
        (and_from (is_free h v) (nat_eq (block_of p v) a) (eq-eqb (fix_of h v) FREE n.free) (eq-eqb (block_of p v) a n.block))
        (not_from (is_near h p a b v) (near_is_told h p a b v) n.other))
        (any_from (λ (e : Net). nat_le (length e.pins) 1000 && holds e v && list_any (is_near h p a b) e.pins) h.nets n.net.0 n.net.1
        (and_from (nat_le (length n.net.0.pins) 1000 && holds n.net.0 v) (list_any (is_near h p a b) n.net.0.pins)
        (and_from (nat_le (length n.net.0.pins) 1000) (holds n.net.0 v) (le-leb (length n.net.0.pins) 1000 n.net.2) ((holds-told n.net.0 v).1 n.net.3))
        (any_from (is_near h p a b) n.net.0.pins n.net.4.0 n.net.4.1 ((near_is_told h p a b n.net.4.0).1 n.net.4.2))))

-- ---- what is taken

-- two tests for one bound
same_bound : (w t x room : ℕ) → w ≤ room → nat_le (t + x) (room - w) ≡ nat_le (w + t + x) room
same_bound w t x room low = by (nat_le (t + x) (room - w)) refl (nat_le (w + t + x) room) refl
  where
    by : (a : Bool) → nat_le (t + x) (room - w) ≡ a → (b : Bool) → nat_le (w + t + x) room ≡ b → a ≡ b
    by true e true f = refl
    by true e false f = absurd (let m = leb-true (t + x) (room - w) e in true≢false (sym (le-leb (w + t + x) room (omega arith)) ∙ f))
    by false e true f = absurd (let m = leb-true (w + t + x) room f in true≢false (sym (le-leb (t + x) (room - w) (omega arith)) ∙ e))
    by false e false f = refl

pub takes_while_room : TakesWhileRoom
takes_while_room h room [] v = one (nat_le (weight_of h v) room) (nat_le (0 + weight_of h v) room) (ap (λ n. nat_le n room) same)
  where
    same : weight_of h v ≡ 0 + weight_of h v
    same = omega arith

    one : (s t : Bool) → s ≡ t → (if s then v ∷ [] else []) ≡ (if t then v ∷ [] else [])
    one s t e = ap (λ (b : Bool). if b then v ∷ [] else []) e
takes_while_room h room (u ∷ us) v = by (nat_le (weight_of h u) room) refl (λ r. takes_while_room h r us v)
  where
    by : (t : Bool) → nat_le (weight_of h u) room ≡ t
        → ((r : ℕ) → taken h r (us ++ v ∷ []) ≡ taken h r us ++ (if nat_le (total (weight_of h) (taken h r us) + weight_of h v) r then v ∷ [] else []))
        → (if t then u ∷ taken h (if t then room - weight_of h u else room) (us ++ v ∷ []) else taken h (if t then room - weight_of h u else room)
        (us ++ v ∷ []))
        ≡ (if t then u ∷ taken h (if t then room - weight_of h u else room) us else taken h (if t then room - weight_of h u else room) us)
        ++ (if nat_le (total (weight_of h) (if t then u ∷ taken h (if t then room - weight_of h u else room) us else taken h
        (if t then room - weight_of h u else room) us) + weight_of h v) room then v ∷ [] else [])
    by true e rest =
        ap (λ (vs : List ℕ). u ∷ vs) (rest (room - weight_of h u))
        ∙ ap (λ (b : Bool). (u ∷ taken h (room - weight_of h u) us) ++ (if b then v ∷ [] else []))
        (same_bound (weight_of h u) (total (weight_of h) (taken h (room - weight_of h u) us)) (weight_of h v) room (leb-true (weight_of h u) room e))
    by false e rest = rest room

taken-fits : (h : Hyper) (room : ℕ) (vs : List ℕ) → total (weight_of h) (taken h room vs) ≤ room
taken-fits h room [] = omega arith
taken-fits h room (v ∷ vs) = by (nat_le (weight_of h v) room) refl (λ r. taken-fits h r vs)
  where
    by : (t : Bool) → nat_le (weight_of h v) room ≡ t → ((r : ℕ) → total (weight_of h) (taken h r vs) ≤ r)
        → total (weight_of h) (if t then v ∷ taken h (if t then room - weight_of h v else room) vs else taken h (if t then room - weight_of h v else room)
        vs) ≤ room
    by true e rest = let low = leb-true (weight_of h v) room e in let r = rest (room - weight_of h v) in omega arith
    by false e rest = rest room

pub side_fits : SideFits
side_fits h l p a b = taken-fits h (l - load h p b) (filter (is_near h p a b) (vertices h) ++ filter (is_next h p a b) (vertices h))

pub side_is_ranked : SideIsRanked
side_is_ranked h l p a b =
    All-taken (λ v. IsNear h p a b v ⊎ IsNext h p a b v) h (l - load h p b) (filter (is_near h p a b) (vertices h) ++ filter (is_next h p a b) (vertices h))
    (All-append (λ v. IsNear h p a b v ⊎ IsNext h p a b v) (filter (is_near h p a b) (vertices h)) (filter (is_next h p a b) (vertices h))
    (All-weaker (λ v. is_near h p a b v ≡ true) (λ v. IsNear h p a b v ⊎ IsNext h p a b v) (λ v t. inl ((near_is_told h p a b v).0 t))
    (filter (is_near h p a b) (vertices h)) (filter_passes (is_near h p a b) (vertices h)))
    (All-weaker (λ v. is_next h p a b v ≡ true) (λ v. IsNear h p a b v ⊎ IsNext h p a b v) (λ v t. inr ((next_is_told h p a b v).0 t))
    (filter (is_next h p a b) (vertices h)) (filter_passes (is_next h p a b) (vertices h))))

pub region_has_sides : RegionHasSides
region_has_sides h l p a b v = (
  λ c. Contains-append_cases (side h l p a b) (side h l p b a) v (Contains-from_set_of nat_cmp_total nat_cmp_exact (side h l p a b ++ side h l p b a) v c),
  λ s. Contains-set_of nat_cmp_total nat_cmp_exact (side h l p a b ++ side h l p b a) v (by s),
)
  where
    by : Contains (side h l p a b) v ⊎ Contains (side h l p b a) v → Contains (side h l p a b ++ side h l p b a) v
    by (inl c) = Contains-append_left (side h l p a b) (side h l p b a) v c
    by (inr c) = Contains-append_right (side h l p a b) (side h l p b a) v c

pub region_rises : RegionRises
region_rises h l p a b = increasing-set_of (side h l p a b ++ side h l p b a)
