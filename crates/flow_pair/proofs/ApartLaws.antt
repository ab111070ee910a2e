-- Pairs without a block in common: what is assigned within one leaves all of the other one.
use Rattle.std.proofs.Common.{◌≡◌, ◌≢◌, ◌⊎◌, inl, inr, ℕ, suc, ◌+◌, ◌-◌, ◌<◌, Bool, ◌&&◌, not, nat_eq, nat_le, if◌then◌else◌, List}
use Rattle.std.proofs.Common.{[], ◌∷◌, ◌++◌, length, filter, All, Contains, refl, sym, ap, ◌∙◌, subst, arith}
use Rattle.std.specs.List.{list_any}
use Rattle.std.proofs.lemmas.List.Elements.{All-contains, All-weaker}
use Rattle.std.proofs.lemmas.List.{get_or_default}
use Rattle.std.proofs.lemmas.Int.{ints}
use Rattle.hg_defs.specs.Sums.{total}
use Rattle.hg_defs.specs.Hypergraph.{Net, Hyper, is_free, vertices}
use Rattle.hg_defs.specs.Partition.{IsPartition, block_of, weight_in, load}
use Rattle.hg_defs.proofs.SumLaws.{total-same_each}
use Rattle.round_log.specs.Rounds.{has_pin, holds, touching, is_near, is_next, taken, side, leaves, pair_price, pair_cost}
use Rattle.flow_pair.specs.PairNetwork.{AreOfPair}
use Rattle.flow_pair.specs.Laws.{PairsKeepApart, PairsSaveApart}
use Rattle.flow_pair.proofs.PairLaws.{rearranged, any_same, among, assigned_below, assignments_cost}

pub filter_same : {A : Type 0} (f g : A → Bool) (xs : List A) → ((x : A) → f x ≡ g x) → filter f xs ≡ filter g xs
filter_same f g [] h = refl
filter_same f g (x ∷ xs) h = ap (λ t. if t then (x ∷ filter f xs) else filter f xs) (h x) ∙ ap (λ ys. if g x then (x ∷ ys) else ys) (filter_same f g xs h)

-- the block has the same vertices in both
abbrev HasSame : List ℕ → List ℕ → ℕ → Type 0
HasSame p q c = (v : ℕ) → nat_eq (block_of q v) c ≡ nat_eq (block_of p v) c

weight_in-same : (ws p q : List ℕ) (c : ℕ) → length q ≡ length p → HasSame p q c → weight_in ws q c ≡ weight_in ws p c
weight_in-same [] p q c e s = refl
weight_in-same (w ∷ ws) [] [] c e s = refl
weight_in-same (w ∷ ws) [] (y ∷ q) c e s = absurd (omega arith)
weight_in-same (w ∷ ws) (x ∷ p) [] c e s = absurd (omega arith)
weight_in-same (w ∷ ws) (x ∷ p) (y ∷ q) c e s =
    let rest = weight_in-same ws p q c (omega arith) (λ v. s (suc v)) in
    ap (λ t. (if t then w else 0) + weight_in ws q c) (s 0) ∙ ap (λ n. (if nat_eq x c then w else 0) + n) rest

module _ (h : Hyper) (p q : List ℕ) (c d : ℕ) (first : HasSame p q c) (second : HasSame p q d) where
  has_pin-same : (e : Net) → (has_pin q e c && has_pin q e d) ≡ (has_pin p e c && has_pin p e d)
  has_pin-same e =
      ap (λ t. t && has_pin q e d) (any_same (λ v. nat_eq (block_of q v) c) (λ v. nat_eq (block_of p v) c) e.pins first)
      ∙ ap (λ t. has_pin p e c && t) (any_same (λ v. nat_eq (block_of q v) d) (λ v. nat_eq (block_of p v) d) e.pins second)

  touching-same : touching h q c d ≡ touching h p c d
  touching-same = filter_same (λ e. has_pin q e c && has_pin q e d) (λ e. has_pin p e c && has_pin p e d) h.nets has_pin-same

  leaves-same : (e : Net) → leaves q c d e ≡ leaves p c d e
  leaves-same e =
      any_same (λ v. not (nat_eq (block_of q v) c) && not (nat_eq (block_of q v) d)) (λ v. not (nat_eq (block_of p v) c) && not (nat_eq (block_of p v) d))
      e.pins
      (λ v. ap (λ t. not t && not (nat_eq (block_of q v) d)) (first v) ∙ ap (λ t. not (nat_eq (block_of p v) c) && not t) (second v))

  pub pair_cost-same : pair_cost h q c d ≡ pair_cost h p c d
  pair_cost-same =
      ap (total (λ e. pair_price h.objective (leaves q c d e) e.weight)) touching-same
      ∙ total-same_each (λ e. pair_price h.objective (leaves q c d e) e.weight) (λ e. pair_price h.objective (leaves p c d e) e.weight)
      (λ e. ap (λ t. pair_price h.objective t e.weight) (leaves-same e)) (touching h p c d)

  near-same : (v : ℕ) → is_near h q c d v ≡ is_near h p c d v
  near-same v =
      ap (λ t. is_free h v && t && list_any (λ (e : Net). holds e v) (touching h q c d)) (first v)
      ∙ ap (λ es. is_free h v && nat_eq (block_of p v) c && list_any (λ (e : Net). holds e v) es) touching-same

  next-same : (v : ℕ) → is_next h q c d v ≡ is_next h p c d v
  next-same v =
      ap (λ t. is_free h v && t && not (is_near h q c d v) && list_any (λ (e : Net). nat_le (length e.pins) 1000 && holds e v && list_any (is_near h q c d)
      e.pins) h.nets) (first v)
      ∙ ap (λ t. is_free h v && nat_eq (block_of p v) c && not t && list_any (λ (e : Net). nat_le (length e.pins) 1000 && holds e v &&
      list_any (is_near h q c d) e.pins) h.nets) (near-same v)
      ∙ ap (λ t. is_free h v && nat_eq (block_of p v) c && not (is_near h p c d v) && t)
      (any_same (λ (e : Net). nat_le (length e.pins) 1000 && holds e v && list_any (is_near h q c d) e.pins) (λ (e : Net). nat_le (length e.pins) 1000 &&
      holds e v && list_any (is_near h p c d) e.pins) h.nets
      (λ e. ap (λ t. nat_le (length e.pins) 1000 && holds e v && t) (any_same (is_near h q c d) (is_near h p c d) e.pins near-same)))

  side-same : (l : ℕ) → length q ≡ length p → side h l q c d ≡ side h l p c d
  side-same l e =
      ap (λ n. taken h (l - n) (filter (is_near h q c d) (vertices h) ++ filter (is_next h q c d) (vertices h))) (weight_in-same h.weights p q d e second)
      ∙ ap (λ xs. taken h (l - load h p d) (xs ++ filter (is_next h q c d) (vertices h))) (filter_same (is_near h q c d) (is_near h p c d) (vertices h)
      near-same)
      ∙ ap (λ xs. taken h (l - load h p d) (filter (is_near h p c d) (vertices h) ++ xs)) (filter_same (is_next h q c d) (is_next h p c d) (vertices h)
      next-same)

pub pairs_keep_apart : PairsKeepApart
pairs_keep_apart h l p a b c d region q ca cb da db inside s =
    let r = rearranged p q region a b inside s in
    let first : HasSame p q c = λ v. r.others v c ca cb in
    let second : HasSame p q d = λ v. r.others v d da db in (
      touching-same h p q c d first second,
      side-same h p q c d first second l s.vertices,
      leaves-same h p q c d first second,
      weight_in-same h.weights p q c
          s.vertices first,
      weight_in-same h.weights p q d s.vertices second,
    )

pub pairs_save_apart : PairsSaveApart
pairs_save_apart h k p a b c d region other q p' q' sound w fa fb fc fd ca cb da db cd inside s inner sp sq same =
    let r = rearranged p q region a b inside s in
    let before = pair_cost-same h p q c d (λ v. r.others v c ca cb) (λ v. r.others v d da db) in
    let after = pair_cost-same h p' q' c d (λ v. agrees c ca cb v (among v other)) (λ v. agrees d da db v (among v other)) in
    let x = assignments_cost h k p c d other p p' sound w fc fd cd inner (record { vertices = refl; inside = inner; outside = λ v n. refl }) sp in
    let y = assignments_cost h k q c d other q q' sound wq fc fd cd inner_q (record { vertices = refl; inside = inner_q; outside = λ v n. refl }) sq in
    omega (arith, ints)
  where
    moved_block : (v : ℕ) → Contains region v ⊎ All (λ u. u ≢ v) region → (x : ℕ) → x ≢ a → x ≢ b → block_of p v ≡ x → block_of q v ≡ x
    moved_block v (inr n) x xa xb e = s.outside v n ∙ e
    moved_block v (inl i) x xa xb e = by (All-contains (λ u. (block_of p u ≡ a) ⊎ (block_of p u ≡ b)) region v inside i)
      where
        by : (block_of p v ≡ a) ⊎ (block_of p v ≡ b) → block_of q v ≡ x
        by (inl f) = absurd (xa (sym e ∙ f))
        by (inr f) = absurd (xb (sym e ∙ f))

    stays : (v : ℕ) → (block_of p v ≡ c) ⊎ (block_of p v ≡ d) → (block_of q v ≡ c) ⊎ (block_of q v ≡ d)
    stays v (inl f) = inl (moved_block v (among v region) c ca cb f)
    stays v (inr f) = inr (moved_block v (among v region) d da db f)

    inner_q : AreOfPair q c d other
    inner_q = All-weaker (λ v. (block_of p v ≡ c) ⊎ (block_of p v ≡ d)) (λ v. (block_of q v ≡ c) ⊎ (block_of q v ≡ d)) stays other inner

    wq : IsPartition h k q
    wq = record {
      vertices = s.vertices ∙ w.vertices;
      blocks = λ i x m. subst (λ z. z < k) (get_or_default q i 0 x m)
          (assigned_below k a b p region q fa fb s i (w.blocks i 0 (let e = s.vertices in omega arith)));
    }

    agrees : (x : ℕ) → x ≢ a → x ≢ b → (v : ℕ) → Contains other v ⊎ All (λ u. u ≢ v) other → nat_eq (block_of q' v) x ≡ nat_eq (block_of p' v) x
    agrees x xa xb v (inl i) = ap (λ z. nat_eq z x) (All-contains (λ u. block_of q' u ≡ block_of p' u) other v same i)
    agrees x xa xb v (inr n) = ap (λ z. nat_eq z x) (sq.outside v n) ∙ (rearranged p q region a b inside s).others v x xa xb ∙
        sym (ap (λ z. nat_eq z x) (sp.outside v n))
