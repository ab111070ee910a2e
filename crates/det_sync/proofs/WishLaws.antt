-- Laws of wishes: part by part, of the vertices on cut nets alone, and in their order.
use Rattle.std.proofs.Common.{◌≡◌, ℕ, zero, suc, ◌+◌, ◌-◌, ◌<◌, ◌≤◌, ◌⊎◌, inl, inr, List, [], ◌∷◌, ◌++◌}
use Rattle.std.proofs.Common.{map, filter, cond, All, IsPermutation}
use Rattle.std.proofs.Common.{Option, Some, None, option_map, option_to_list, is_some, get_or, length}
use Rattle.std.proofs.Common.{Bool, true, IsSorted, Ordering, Less, Equal, Greater, is_lt, nat_cmp}
use Rattle.std.proofs.Common.{false, refl, sym, ap, ap₂, ◌∙◌, subst, arith}
use Rattle.std.specs.List.{range_with_len}
use Rattle.std.specs.Ordering.{ordering_then}
use Rattle.std.proofs.lemmas.Bool.{cases_lt}
use Rattle.std.proofs.lemmas.List.{append_assoc, length-map, get_or-map, length_push, get_or_append_left, get_or_push}
use Rattle.std.proofs.lemmas.List.Elements.{All-nil, All-cons, All-head, All-tail}
use Rattle.std.proofs.lemmas.List.Sorted.{All-permutation, IsPermutation-map}
use Rattle.hg_defs.specs.Sorting.{sorted}
use Rattle.hg_defs.specs.Hypergraph.{Hyper, IsHypergraph, vertex_count, net_count, vertices}
use Rattle.hg_defs.specs.Partition.{IsPartition}
use Rattle.hg_defs.specs.Incidence.{nets_of}
use Rattle.incidence.proofs.IndexLaws.{nets_of-below}
use Rattle.hg_defs.specs.LeastLoaded.{heavier_first}
use Rattle.hg_defs.specs.Moves.{best_block}
use Rattle.hg_defs.specs.Synchronous.{wish, saving}
use Rattle.hg_defs.proofs.SortLaws.{sort_is, heavier_first_total, heavier_first_exact}
use Rattle.pin_plain.specs.BestMoves.{ranked, best_moves}
use Rattle.pin_plain.proofs.InnerLaws.{inner_stays}
use Rattle.det_sync.specs.CutNets.{is_cut, is_held, AreCutMarks}
use Rattle.det_sync.specs.Wishes.{Wish, AreWishes, AreCuts, part_at, wish_cmp}
use Rattle.det_sync.proofs.CutLaws.{range_append, range_from, none_passes}

-- ---- parts

module _ (h : Hyper) (k l : ℕ) (p : List ℕ) where
  best_moves-append : (us vs : List ℕ) → best_moves h k l p (us ++ vs) ≡ best_moves h k l p us ++ best_moves h k l p vs
  best_moves-append [] vs = refl
  best_moves-append (u ∷ us) vs =
      ap (λ xs. option_to_list (option_map (ranked h p u) (best_block h l p u k)) ++ xs) (best_moves-append us vs)
      ∙ sym (append_assoc (option_to_list (option_map (ranked h p u) (best_block h l p u k))) (best_moves h k l p us) (best_moves h k l p vs))

  -- the wishes of the parts so far, and those of one more
  pub parts_more : (cuts : List ℕ) (n i : ℕ) (old part : List Wish) → AreCuts n cuts → i + 1 < length cuts
      → old ≡ best_moves h k l p (range_with_len 0 (get_or cuts i 0)) → part ≡ best_moves h k l p (part_at cuts i)
      → old ++ part ≡ best_moves h k l p (range_with_len 0 (get_or cuts (i + 1) 0))
  parts_more cuts n i old part are low is next =
      joined (get_or cuts i 0) (get_or cuts (i + 1) 0) (are.rising i low) is next
    where
      joined : (a b : ℕ) → a ≤ b → old ≡ best_moves h k l p (range_with_len 0 a) → part ≡ best_moves h k l p (range_with_len a (b - a))
          → old ++ part ≡ best_moves h k l p (range_with_len 0 b)
      joined a b low is next =
          let all : a + (b - a) ≡ b = omega arith in
          let from : 0 + a ≡ a = omega arith in
          ap (λ xs. xs ++ part) is
          ∙ ap (λ xs. best_moves h k l p (range_with_len 0 a) ++ xs) next
          ∙ sym (best_moves-append (range_with_len 0 a) (range_with_len a (b - a)))
          ∙ ap (λ m. best_moves h k l p (range_with_len 0 a ++ range_with_len m (b - a))) (sym from)
          ∙ ap (best_moves h k l p) (sym (range_append 0 a (b - a)))
          ∙ ap (λ m. best_moves h k l p (range_with_len 0 m)) all

  -- ---- the vertices that are asked

  -- those that a test leaves out are not missed where they have no best block
  best_moves-filter : (test : ℕ → Bool) (vs : List ℕ) → All (λ v. test v ≡ false → best_block h l p v k ≡ None) vs
      → best_moves h k l p (filter test vs) ≡ best_moves h k l p vs
  best_moves-filter test [] none = refl
  best_moves-filter test (v ∷ vs) none =
      by (test v) refl
      (best_moves-filter test vs (All-tail (λ u. test u ≡ false → best_block h l p u k ≡ None) v vs none))
    where
      by : (t : Bool) → test v ≡ t → best_moves h k l p (filter test vs) ≡ best_moves h k l p vs
          → best_moves h k l p (cond t (v ∷ filter test vs) (filter test vs)) ≡ best_moves h k l p (v ∷ vs)
      by true e rest = ap (λ xs. option_to_list (option_map (ranked h p v) (best_block h l p v k)) ++ xs) rest
      by false e rest =
          rest
          ∙ ap (λ (o : Option ℕ). option_to_list (option_map (ranked h p v) o) ++ best_moves h k l p vs)
          (sym (All-head (λ u. test u ≡ false → best_block h l p u k ≡ None) v vs none e))

  -- only vertices that cut nets hold have wishes
  pub asked_all : (marks : List Bool) (first n : ℕ) → IsHypergraph h → IsPartition h k p → AreCutMarks h p marks → first + n ≤ vertex_count h
      → best_moves h k l p (filter (is_held h marks) (range_with_len first n)) ≡ best_moves h k l p (range_with_len first n)
  asked_all marks first n good whole marked within =
      best_moves-filter (is_held h marks) (range_with_len first n)
      (range_from (λ v. is_held h marks v ≡ false → best_block h l p v k ≡ None) first n
      (λ v low off. inner_stays h k l p v good whole (omega arith)
      (uncut (nets_of h v) (nets_of-below h v) (none_passes (λ e. get_or marks e false) (nets_of h v) off))))
    where
      uncut : (es : List ℕ) → All (λ e. e < net_count h) es → All (λ e. get_or marks e false ≡ false) es → All (λ e. is_cut h p e ≡ false) es
      uncut es low off i d inside = sym (marked.each (get_or es i d) (low i d inside)) ∙ off i d inside

-- ---- cuts

-- the cuts so far, none of which is behind v
pub record IsCutting (v : ℕ) (cuts : List ℕ) : Type 0 where
  pub some : 0 < length cuts
  pub first : get_or cuts 0 0 ≡ 0
  pub rising : (j : ℕ) → j + 1 < length cuts → get_or cuts j 0 ≤ get_or cuts (j + 1) 0
  pub within : (j : ℕ) → j < length cuts → get_or cuts j 0 ≤ v

pub cutting_first : (cuts : List ℕ) → cuts ≡ 0 ∷ [] → IsCutting 0 cuts
cutting_first cuts e = subst (IsCutting 0) (sym e) (record {
  some = omega arith;
  first = refl;
  rising = λ j low. absurd (omega arith);
  within = below;
})
  where
    below : (j : ℕ) → j < 1 → get_or (0 ∷ []) j 0 ≤ 0
    below zero low = omega arith
    below (suc j) low = absurd (omega arith)

pub cutting_later : (v w : ℕ) (cuts : List ℕ) → v ≤ w → IsCutting v cuts → IsCutting w cuts
cutting_later v w cuts low c = record {
  some = c.some;
  first = c.first;
  rising = c.rising;
  within = λ j inside. let m = c.within j inside in omega arith;
}

pub cutting_more : (v w : ℕ) (cuts : List ℕ) → v ≤ w → IsCutting v cuts → IsCutting w (cuts ++ w ∷ [])
cutting_more v w cuts low c = record {
  some = let n = long in omega arith;
  first = before 0 c.some ∙ c.first;
  rising = λ j inside. rises j inside (cases_lt (j + 1) (length cuts));
  within = λ j inside. ends j inside (cases_lt j (length cuts));
}
  where
    long : length (cuts ++ w ∷ []) ≡ length cuts + 1
    long = length_push cuts w

    before : (j : ℕ) → j < length cuts → get_or (cuts ++ w ∷ []) j 0 ≡ get_or cuts j 0
    before j inside = get_or_append_left cuts (w ∷ []) 0 j inside

    pushed : (j : ℕ) → j ≡ length cuts → get_or (cuts ++ w ∷ []) j 0 ≡ w
    pushed j e = get_or_push cuts w 0 j (sym e)

    rises : (j : ℕ) → j + 1 < length (cuts ++ w ∷ []) → (j + 1 < length cuts) ⊎ (length cuts ≤ j + 1) →
        get_or (cuts ++ w ∷ []) j 0 ≤ get_or (cuts ++ w ∷ []) (j + 1) 0
    rises j inside (inl left) =
        let a = before j (omega arith) in let b = before (j + 1) left in let m = c.rising j left in omega arith
    rises j inside (inr end) =
        let n = long in
        let a = before j (omega arith) in let b = pushed (j + 1) (omega arith) in let m = c.within j (omega arith) in omega arith

    ends : (j : ℕ) → j < length (cuts ++ w ∷ []) → (j < length cuts) ⊎ (length cuts ≤ j) → get_or (cuts ++ w ∷ []) j 0 ≤ w
    ends j inside (inl left) = let a = before j left in let m = c.within j left in omega arith
    ends j inside (inr end) = let n = long in let b = pushed j (omega arith) in omega arith

pub cuts_end : (v n : ℕ) (cuts : List ℕ) → v ≤ n → IsCutting v cuts → AreCuts n (cuts ++ n ∷ [])
cuts_end v n cuts low c =
    let more = cutting_more v n cuts low c in
    record {
      some = more.some;
      first = more.first;
      rising = more.rising;
      within = more.within;
      last = get_or_push cuts n 0 (length (cuts ++ n ∷ []) - 1) (let long = length_push cuts n in omega arith);
    }

-- ---- the order

abbrev pub key_of : Wish → ℕ × ℕ
key_of w = (w.0.0, w.1)

map-map : {A B C : Type 0} (f : B → C) (g : A → B) (xs : List A) → map f (map g xs) ≡ map (λ x. f (g x)) xs
map-map f g [] = refl
map-map f g (x ∷ xs) = ap (λ ys. f (g x) ∷ ys) (map-map f g xs)

before_by_key : (r s : Ordering) → is_lt (ordering_then r s) ≡ false → is_lt r ≡ false
before_by_key Less s e = e
before_by_key Equal s e = refl
before_by_key Greater s e = refl

keys_sorted : (ws : List Wish) → IsSorted wish_cmp ws → IsSorted heavier_first (map key_of ws)
keys_sorted [] s k d low next = absurd (omega arith)
keys_sorted (w ∷ ws) s k d low next =
    let n = length-map ws key_of in
    subst (λ a. is_lt (heavier_first (get_or (map key_of (w ∷ ws)) (k + 1) d) a) ≡ false) (sym (get_or-map key_of (w ∷ ws) k w d (omega arith)))
    (subst (λ a. is_lt (heavier_first a (key_of (get_or (w ∷ ws) k w))) ≡ false) (sym (get_or-map key_of (w ∷ ws) (k + 1) w d (omega arith)))
    (before_by_key (heavier_first (key_of (get_or (w ∷ ws) (k + 1) w)) (key_of (get_or (w ∷ ws) k w)))
    (nat_cmp (get_or (w ∷ ws) (k + 1) w).2 (get_or (w ∷ ws) k w).2) (s k w (omega arith) (omega arith))))

module _ (h : Hyper) (k l : ℕ) (p : List ℕ) where
  keys_are : (vs : List ℕ) → map key_of (best_moves h k l p vs)
      ≡ map (λ v. (saving h p v (wish h k l p v), v)) (filter (λ v. is_some (wish h k l p v)) vs)
  keys_are [] = refl
  keys_are (v ∷ vs) = by (best_block h l p v k) refl (keys_are vs)
    where
      by : (o : Option ℕ) → best_block h l p v k ≡ o
          → map key_of (best_moves h k l p vs) ≡ map (λ u. (saving h p u (wish h k l p u), u)) (filter (λ u. is_some (wish h k l p u)) vs)
          → map key_of (option_to_list (option_map (ranked h p v) o) ++ best_moves h k l p vs)
          ≡ map (λ u. (saving h p u (wish h k l p u), u))
          (cond (is_some o) (v ∷ filter (λ u. is_some (wish h k l p u)) vs) (filter (λ u. is_some (wish h k l p u)) vs))
      by None e rest = rest
      by (Some b) e rest = ap₂ (λ (a : ℕ) (xs : List (ℕ × ℕ)). (a, v) ∷ xs) (ap (saving h p v) (sym e)) rest

  each_is : (vs : List ℕ) → All (λ (w : Wish). wish h k l p w.1 ≡ Some w.2) (best_moves h k l p vs)
  each_is [] = All-nil (λ (w : Wish). wish h k l p w.1 ≡ Some w.2)
  each_is (v ∷ vs) = by (best_block h l p v k) refl (each_is vs)
    where
      by : (o : Option ℕ) → best_block h l p v k ≡ o → All (λ (w : Wish). wish h k l p w.1 ≡ Some w.2) (best_moves h k l p vs)
          → All (λ (w : Wish). wish h k l p w.1 ≡ Some w.2) (option_to_list (option_map (ranked h p v) o) ++ best_moves h k l p vs)
      by None e rest = rest
      by (Some b) e rest = All-cons (λ (w : Wish). wish h k l p w.1 ≡ Some w.2) (ranked h p v b) (best_moves h k l p vs) e rest

  -- the best moves of all vertices, in order, are the wishes
  pub sorted_wishes : (ws : List Wish) → IsPermutation (best_moves h k l p (vertices h)) ws → IsSorted wish_cmp ws → AreWishes h k l p ws
  sorted_wishes ws moved in_order = record {
    order =
        sym (map-map (λ (a : ℕ × ℕ). a.1) key_of ws)
        ∙ ap (map (λ (a : ℕ × ℕ). a.1))
        (sort_is heavier_first_total heavier_first_exact (map key_of (best_moves h k l p (vertices h))) (map key_of ws)
        (IsPermutation-map key_of (best_moves h k l p (vertices h)) ws moved) (keys_sorted ws in_order)
        ∙ ap (sorted heavier_first) (keys_are (vertices h)));
    each = All-permutation (λ (w : Wish). wish h k l p w.1 ≡ Some w.2) (best_moves h k l p (vertices h)) ws moved (each_is (vertices h));
  }
