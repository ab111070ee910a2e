-- An end of a pair stays one while another pair without a block in common is assigned anew.
use Rattle.std.proofs.Common.{◌≡◌, ◌≢◌, ◌⊎◌, inl, inr, ℕ, ◌<◌, ◌≤◌, nat_eq, List, length, map, All, Contains, pos, ◌-ℤ◌, sym, ap, ap₂}
use Rattle.std.proofs.Common.{subst, ◌∙◌, arith, slice_index, ◌++◌}
use Rattle.std.specs.List.Sorted.{IsStrictlyIncreasing}
use Rattle.std.specs.Ordering.{nat_cmp}
use Rattle.std.proofs.lemmas.Int.{ints}
use Rattle.std.proofs.lemmas.List.{get_or_default, length-map, get_or-map}
use Rattle.std.proofs.lemmas.List.Elements.{All-contains}
use Rattle.hg_defs.specs.Hypergraph.{Hyper, IsHypergraph}
use Rattle.hg_defs.specs.Partition.{IsPartition, Fits, block_of}
use Rattle.hg_defs.specs.Cost.{cost}
use Rattle.hg_defs.specs.Sorting.{set_of}
use Rattle.round_log.specs.Rounds.{changes, touching, region, IsAssignment}
use Rattle.round_log.proofs.AssignmentLaws.{assignment-fits, assignment-partition}
use Rattle.flow_pair.specs.declared.solve.PairEnd.{PairEnd}
use Rattle.flow_pair.specs.PairEnds.{reassigned, IsPairEnd}
use Rattle.flow_pair.specs.PairNetwork.{AreOfPair}
use Rattle.flow_pair.proofs.ApartLaws.{pairs_keep_apart, pairs_save_apart, pair_cost-same}
use Rattle.flow_pair.proofs.BookLaws.{changes_apart}
use Rattle.flow_pair.proofs.EndLaws.{end_rises, end_vertices, end_pair}
use Rattle.flow_pair.proofs.PairLaws.{rearranged, among}
use Rattle.flow_pair.proofs.ReassignLaws.{length-reassigned, reassigned-other, reassigned-at}

-- ---- an end leads to a partition that fits

module _ (h : Hyper) (k l : ℕ) (p : List ℕ) (a b : ℕ) (end : PairEnd) (s : IsPairEnd h k l p a b end) where
  assigned_region : IsAssignment p a b (region h l p a b) (reassigned p end.region end.blocks)
  assigned_region = subst (λ vs. IsAssignment p a b vs (reassigned p end.region end.blocks)) s.vertices_of s.assigned

  pub end_partition : a < k → b < k → IsPartition h k p → IsPartition h k (reassigned p end.region end.blocks)
  end_partition first second parted = assignment-partition h k l p a b (reassigned p end.region end.blocks) first second parted assigned_region

-- ---- the pair (c, d) keeps its end while (a, b) is assigned anew

module _ (h : Hyper) (k l : ℕ) (p : List ℕ) (a b c d : ℕ) (vs q : List ℕ) (sound : IsHypergraph h) (parted : IsPartition h k p) (parted' : IsPartition h k q)
    (fits : Fits h k l q) (fa : a < k) (fb : b < k) (fc : c < k) (fd : d < k) (ca : c ≢ a) (cb : c ≢ b) (da : d ≢ a) (db : d ≢ b) (cd : c ≢ d)
    (inside : AreOfPair p a b vs) (s : IsAssignment p a b vs q)
  where
    pub touching_kept : touching h q c d ≡ touching h p c d
    touching_kept = (pairs_keep_apart h l p a b c d vs q ca cb da db inside s).0

    module _ (end : PairEnd) (e : IsPairEnd h k l p c d end) where
      rises : IsStrictlyIncreasing end.region
      rises = end_rises h k l p c d end e

      low : (r : List ℕ) → IsPartition h k r → All (λ v. v < length r) end.region
      low r w = subst (λ n. All (λ v. v < n) end.region) (sym w.vertices) (end_vertices h k l p c d end e sound)

      -- vertices of the region get the same blocks
      at : (i : ℕ) → i < length end.region
          → block_of (reassigned q end.region end.blocks) (slice_index end.region i) ≡ block_of (reassigned p end.region end.blocks) (slice_index end.region i)
      at i m =
          reassigned-at q end.region end.blocks i rises (low q parted') e.blocks_of m
          ∙ sym (reassigned-at p end.region end.blocks i rises (low p parted) e.blocks_of m)

      same : All (λ v. block_of (reassigned q end.region end.blocks) v ≡ block_of (reassigned p end.region end.blocks) v) end.region
      same i x m =
          subst (λ v. block_of (reassigned q end.region end.blocks) v ≡ block_of (reassigned p end.region end.blocks) v)
          (get_or_default end.region i 0 x m) (at i m)

      regions : region h l q c d ≡ region h l p c d
      regions = ap₂ (λ xs ys. set_of nat_cmp (xs ++ ys)) (pairs_keep_apart h l p a b c d vs q ca cb da db inside s).1
          (pairs_keep_apart h l p a b d c vs q da db ca cb inside s).1

      assigned' : IsAssignment q c d end.region (reassigned q end.region end.blocks)
      assigned' = record {
        vertices = length-reassigned q end.region end.blocks;
        inside = λ i x m.
            let f = e.assigned.inside i x m in
            let g = same i x m in
            by f g;
        outside = λ v n. reassigned-other q end.region end.blocks v n;
      }
        where
          by : {x y : ℕ} → (x ≡ c) ⊎ (x ≡ d) → y ≡ x → (y ≡ c) ⊎ (y ≡ d)
          by (inl f) g = inl (g ∙ f)
          by (inr f) g = inr (g ∙ f)

      pair' : AreOfPair p c d end.region
      pair' = end_pair h k l p c d end e

      -- the pair's saving is that of before
      saving : pos (cost h p) -ℤ pos (cost h (reassigned p end.region end.blocks)) ≡ pos (cost h q) -ℤ pos (cost h (reassigned q end.region end.blocks))
      saving = pairs_save_apart h k p a b c d vs end.region q (reassigned p end.region end.blocks) (reassigned q end.region end.blocks) sound parted fa fb
          fc fd ca cb da db cd inside s pair' e.assigned assigned' same

      -- the same assignment from p
      mirror : List ℕ → List ℕ
      mirror other = reassigned p end.region (map (block_of other) end.region)

      mirror_at : (other : List ℕ) → IsPartition h k p → (i : ℕ) → i < length end.region
          → block_of (mirror other) (slice_index end.region i) ≡ block_of other (slice_index end.region i)
      unfolding mirror
      mirror_at other w i m =
          reassigned-at p end.region (map (block_of other) end.region) i rises (low p w) (length-map end.region (block_of other)) m
          ∙ get_or-map (block_of other) end.region i 0 0 m

      cheapest' : (other : List ℕ) → IsAssignment q c d end.region other → cost h (reassigned q end.region end.blocks) ≤ cost h other
      unfolding mirror
      cheapest' other t =
          let least = e.cheapest (mirror other) mirrored in
          let first = saving in
          let second = pairs_save_apart h k p a b c d vs end.region q (mirror other) other sound parted fa fb fc fd ca cb da db cd inside s pair' mirrored t
          (λ i x m. subst (λ v. block_of other v ≡ block_of (mirror other) v) (get_or_default end.region i 0 x m) (sym (mirror_at other parted i m))) in
          omega (arith, ints)
        where
          by : {x y : ℕ} → (x ≡ c) ⊎ (x ≡ d) → y ≡ x → (y ≡ c) ⊎ (y ≡ d)
          by (inl f) g = inl (g ∙ f)
          by (inr f) g = inr (g ∙ f)

          mirrored : IsAssignment p c d end.region (mirror other)
          mirrored = record {
            vertices = length-reassigned p end.region (map (block_of other) end.region);
            inside = λ i x m. by (t.inside i x m)
                (subst (λ v. block_of (mirror other) v ≡ block_of other v) (get_or_default end.region i 0 x m) (mirror_at other parted i m));
            outside = λ v n. reassigned-other p end.region (map (block_of other) end.region) v n;
          }

      agrees : (x : ℕ) → x ≢ a → x ≢ b → (v : ℕ)
          → nat_eq (block_of (reassigned q end.region end.blocks) v) x ≡ nat_eq (block_of (reassigned p end.region end.blocks) v) x
      agrees x xa xb v = by (among v end.region)
        where
          by : Contains end.region v ⊎ All (λ u. u ≢ v) end.region
              → nat_eq (block_of (reassigned q end.region end.blocks) v) x ≡ nat_eq (block_of (reassigned p end.region end.blocks) v) x
          by (inl i) = ap (λ z. nat_eq z x)
              (All-contains (λ u. block_of (reassigned q end.region end.blocks) u ≡ block_of (reassigned p end.region end.blocks) u) end.region v same i)
          by (inr n) = ap (λ z. nat_eq z x) (reassigned-other q end.region end.blocks v n) ∙ (rearranged p q vs a b inside s).others v x xa xb
              ∙ sym (ap (λ z. nat_eq z x) (reassigned-other p end.region end.blocks v n))

      -- the moves that assign its region anew are those of before
      pub moves_kept : changes h q (reassigned q end.region end.blocks) end.region ≡ changes h p (reassigned p end.region end.blocks) end.region
      moves_kept = changes_apart h k a b c d sound fa fb fc fd ca cb da db cd end.region p q vs (reassigned p end.region end.blocks)
          (reassigned q end.region end.blocks) parted inside s (low p parted) pair' e.assigned.inside same

      pub end_kept : IsPairEnd h k l q c d end
      end_kept = record {
        vertices_of = e.vertices_of ∙ sym regions;
        blocks_of = e.blocks_of;
        assigned = assigned';
        fits = assignment-fits h k l q c d (reassigned q end.region end.blocks) fc fd parted' fits
            (subst (λ r. IsAssignment q c d r (reassigned q end.region end.blocks)) (e.vertices_of ∙ sym regions) assigned');
        cheapest = cheapest';
        value = e.value ∙ sym (pair_cost-same h (reassigned p end.region end.blocks) (reassigned q end.region end.blocks) c d (agrees c ca cb)
            (agrees d da db));
      }
