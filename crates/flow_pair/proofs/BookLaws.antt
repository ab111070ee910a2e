-- The moves within a pair of blocks: what they book whatever other blocks hold, and where they lead.
use Rattle.std.proofs.Common.{◌≡◌, ◌≢◌, ◌⊎◌, inl, inr, ℕ, zero, suc, ◌+◌, ◌<◌, ◌≤◌, nat_eq, if◌then◌else◌, List, [], ◌∷◌, ◌++◌, length}
use Rattle.std.proofs.Common.{All, ℤ, pos, ◌-ℤ◌, refl, sym, ap, ap₂, subst, ◌∙◌, arith, get_or, slice_index, slice_set}
use Rattle.std.proofs.Common.{get_or-set_same, get_or-set_other, length-set}
use Rattle.std.specs.List.Sorted.{IsStrictlyIncreasing}
use Rattle.std.proofs.lemmas.Bool.{cases_eq}
use Rattle.std.proofs.lemmas.Int.{ints}
use Rattle.std.proofs.lemmas.List.Elements.{All-nil, All-cons, All-head, All-tail, All-weaker, All-set}
use Rattle.hg_defs.specs.declared.moves.Move.{Move}
use Rattle.hg_defs.specs.Sums.{total_z}
use Rattle.hg_defs.specs.Hypergraph.{Hyper, IsHypergraph, vertex_count}
use Rattle.hg_defs.specs.Partition.{IsPartition, block_of}
use Rattle.hg_defs.specs.Cost.{cost}
use Rattle.hg_defs.specs.Moves.{gain}
use Rattle.hg_defs.specs.Replay.{replay}
use Rattle.round_log.specs.declared.record.LoggedRound.{LoggedRound}
use Rattle.round_log.specs.Rounds.{changes, IsAssignment}
use Rattle.flow_pair.specs.declared.solve.PairEnd.{PairEnd}
use Rattle.flow_pair.specs.PairEnds.{reassigned, IsPairEnd}
use Rattle.flow_pair.specs.PairNetwork.{AreOfPair}
use Rattle.flow_pair.specs.Turns.{change, IsRoundOf, RecordsFlow}
use Rattle.flow_pair.proofs.ApartLaws.{pairs_save_apart}
use Rattle.flow_pair.proofs.ChangeLaws.{IsAssigning, assigning_more, assigned_all, changes_all, changes-within, flow_recorded, put_change}
use Rattle.flow_pair.proofs.EndLaws.{end_rises, end_vertices, end_no_dearer}
use Rattle.flow_pair.proofs.RegionLaws.{rising-few}

-- ---- the pair (c, d) while vertices of the pair (a, b) are assigned anew

module _ (h : Hyper) (k a b c d : ℕ) (sound : IsHypergraph h) (fa : a < k) (fb : b < k) (fc : c < k) (fd : d < k) (ca : c ≢ a) (cb : c ≢ b)
    (da : d ≢ a) (db : d ≢ b) (cd : c ≢ d)
  where
    differ : (p : List ℕ) (u v : ℕ) → (block_of p u ≡ c) ⊎ (block_of p u ≡ d) → (block_of p v ≡ a) ⊎ (block_of p v ≡ b) → v ≢ u
    differ p u v (inl f) (inl g) e = ca (sym f ∙ ap (block_of p) (sym e) ∙ g)
    differ p u v (inl f) (inr g) e = cb (sym f ∙ ap (block_of p) (sym e) ∙ g)
    differ p u v (inr f) (inl g) e = da (sym f ∙ ap (block_of p) (sym e) ∙ g)
    differ p u v (inr f) (inr g) e = db (sym f ∙ ap (block_of p) (sym e) ∙ g)

    -- a vertex of the pair goes to one of its blocks, before the others are assigned anew and afterwards
    module _ (u x : ℕ) (p q vs : List ℕ) (low : u < length p) (here : (block_of p u ≡ c) ⊎ (block_of p u ≡ d)) (to : (x ≡ c) ⊎ (x ≡ d))
        (parted : IsPartition h k p) (inside : AreOfPair p a b vs) (s : IsAssignment p a b vs q)
      where
        apart : All (λ v. v ≢ u) vs
        apart = All-weaker (λ v. (block_of p v ≡ a) ⊎ (block_of p v ≡ b)) (λ v. v ≢ u) (λ v f. differ p u v here f) vs inside

        low_q : u < length q
        low_q = let e = s.vertices in omega arith

        at_p : block_of (slice_set p u x) u ≡ x
        at_p = get_or-set_same p u x 0 low

        at_q : block_of (slice_set q u x) u ≡ x
        at_q = get_or-set_same q u x 0 low_q

        one : (r : List ℕ) → u < length r → IsAssignment r c d (u ∷ []) (slice_set r u x)
        one r l = record {
          vertices = length-set r u x;
          inside = All-cons (λ v. (block_of (slice_set r u x) v ≡ c) ⊎ (block_of (slice_set r u x) v ≡ d)) u []
              (subst (λ z. (z ≡ c) ⊎ (z ≡ d)) (sym (get_or-set_same r u x 0 l)) to)
              (All-nil (λ v. (block_of (slice_set r u x) v ≡ c) ⊎ (block_of (slice_set r u x) v ≡ d)));
          outside = λ v n. get_or-set_other r u v x 0 (λ e. All-head (λ w. w ≢ v) u [] n (sym e));
        }

        pub block_kept : block_of q u ≡ block_of p u
        block_kept = s.outside u apart

        pub gain_kept : gain h q u x ≡ gain h p u x
        gain_kept =
            sym (pairs_save_apart h k p a b c d vs (u ∷ []) q (slice_set p u x) (slice_set q u x) sound parted fa fb fc fd ca cb da db cd inside s
            (All-cons (λ v. (block_of p v ≡ c) ⊎ (block_of p v ≡ d)) u [] here (All-nil (λ v. (block_of p v ≡ c) ⊎ (block_of p v ≡ d))))
            (one p low) (one q low_q)
            (All-cons (λ v. block_of (slice_set q u x) v ≡ block_of (slice_set p u x) v) u [] (at_q ∙ sym at_p)
            (All-nil (λ v. block_of (slice_set q u x) v ≡ block_of (slice_set p u x) v))))

        pub moved_partition : IsPartition h k (slice_set p u x)
        moved_partition = record { vertices = length-set p u x ∙ parted.vertices; blocks = All-set (λ z. z < k) p u x (below to) parted.blocks }
          where
            below : (x ≡ c) ⊎ (x ≡ d) → x < k
            below (inl e) = subst (λ z. z < k) (sym e) fc
            below (inr e) = subst (λ z. z < k) (sym e) fd

        pub moved_inside : AreOfPair (slice_set p u x) a b vs
        moved_inside = λ i y m. subst (λ z. (z ≡ a) ⊎ (z ≡ b)) (sym (get_or-set_other p u (get_or vs i y) x 0 (apart i y m))) (inside i y m)

        pub moved_assignment : IsAssignment (slice_set p u x) a b vs (slice_set q u x)
        moved_assignment = record {
          vertices = length-set q u x ∙ s.vertices ∙ sym (length-set p u x);
          inside = λ i y m. subst (λ z. (z ≡ a) ⊎ (z ≡ b)) (sym (get_or-set_other q u (get_or vs i y) x 0 (apart i y m))) (s.inside i y m);
          outside = λ v n. by v n (cases_eq v u);
        }
          where
            by : (v : ℕ) → All (λ w. w ≢ v) vs → (v ≡ u) ⊎ (v ≢ u) → block_of (slice_set q u x) v ≡ block_of (slice_set p u x) v
            by v n (inl e) = ap (block_of (slice_set q u x)) e ∙ at_q ∙ sym (ap (block_of (slice_set p u x)) e ∙ at_p)
            by v n (inr m) = get_or-set_other q u v x 0 m ∙ s.outside v n ∙ sym (get_or-set_other p u v x 0 m)

        pub moved_pair : (us : List ℕ) → AreOfPair p c d us → AreOfPair (slice_set p u x) c d us
        moved_pair us all = λ i y m. by (get_or us i y) (all i y m) (cases_eq (get_or us i y) u)
          where
            by : (w : ℕ) → (block_of p w ≡ c) ⊎ (block_of p w ≡ d) → (w ≡ u) ⊎ (w ≢ u)
                → (block_of (slice_set p u x) w ≡ c) ⊎ (block_of (slice_set p u x) w ≡ d)
            by w f (inl e) = subst (λ z. (z ≡ c) ⊎ (z ≡ d)) (sym (ap (block_of (slice_set p u x)) e ∙ at_p)) to
            by w f (inr n) = subst (λ z. (z ≡ c) ⊎ (z ≡ d)) (sym (get_or-set_other p u w x 0 n)) f

    same_change : (p q : List ℕ) (u x : ℕ) (later : List Move) → block_of q u ≡ block_of p u → gain h q u x ≡ gain h p u x
        → put_change h q u x later ≡ put_change h p u x later
    same_change p q u x later e g =
        let change_of : ℕ → ℤ → List Move = λ f z. if nat_eq f x then later else (record { vertex = u; from = f; to = x; worker = 0; booked = z } ∷ later) in
        ap₂ change_of e g

    -- the moves of vertices of the pair are the same before and afterwards
    pub changes_apart : (us p q vs tp tq : List ℕ) → IsPartition h k p → AreOfPair p a b vs → IsAssignment p a b vs q → All (λ u. u < length p) us
        → AreOfPair p c d us → AreOfPair tp c d us → All (λ u. block_of tq u ≡ block_of tp u) us → changes h q tq us ≡ changes h p tp us
    changes_apart [] p q vs tp tq parted inside s low here to same = refl
    changes_apart (u ∷ us) p q vs tp tq parted inside s low here to same =
        let x = block_of tp u in
        let first = All-head (λ w. w < length p) u us low in
        let mine = All-head (λ w. (block_of p w ≡ c) ⊎ (block_of p w ≡ d)) u us here in
        let next = All-head (λ w. (block_of tp w ≡ c) ⊎ (block_of tp w ≡ d)) u us to in
        let later = changes_apart us (slice_set p u x) (slice_set q u x) vs tp tq (moved_partition u x p q vs first mine next parted inside s)
        (moved_inside u x p q vs first mine next parted inside s) (moved_assignment u x p q vs first mine next parted inside s)
        (subst (λ n. All (λ w. w < n) us) (sym (length-set p u x)) (All-tail (λ w. w < length p) u us low))
        (moved_pair u x p q vs first mine next parted inside s us (All-tail (λ w. (block_of p w ≡ c) ⊎ (block_of p w ≡ d)) u us here))
        (All-tail (λ w. (block_of tp w ≡ c) ⊎ (block_of tp w ≡ d)) u us to) (All-tail (λ w. block_of tq w ≡ block_of tp w) u us same) in
        ap (λ z. put_change h q u z (changes h (slice_set q u z) tq us)) (All-head (λ w. block_of tq w ≡ block_of tp w) u us same)
        ∙ ap (put_change h q u x) later
        ∙ same_change p q u x (changes h (slice_set p u x) tp us) (block_kept u x p q vs first mine next parted inside s)
        (gain_kept u x p q vs first mine next parted inside s)

-- ---- where the moves of a region lead

module _ (h : Hyper) (p vs blocks : List ℕ) (count : length blocks ≡ length vs) (rising : IsStrictlyIncreasing vs) (below : All (λ v. v < length p) vs)
  where
    -- the first n vertices got their blocks
    assigning : (n : ℕ) → n ≤ length vs → (q : List ℕ) × (moves : List Move) × IsAssigning h p vs blocks n q moves
    assigning zero l = (p, [], record { rest = refl; made = refl; replayed = refl; saved = omega (arith, ints); few = omega arith })
    assigning (suc n) l =
        let was = assigning n (omega arith) in
        let e : n + 1 ≡ suc n = omega arith in
        let q = slice_set was.0 (slice_index vs n) (slice_index blocks n) in
        let moves = was.1 ++ change h was.0 (slice_index vs n) (slice_index blocks n) in (
          q,
          moves,
          subst (λ m. IsAssigning h p vs blocks m q moves) e
              (assigning_more h p vs blocks n was.0 was.1 moves (omega arith) count rising below refl was.2),
        )

    whole : (q : List ℕ) × (moves : List Move) × IsAssigning h p vs blocks (length vs) q moves
    whole = assigning (length vs) (omega arith)

    moves_are : whole.1 ≡ changes h p (reassigned p vs blocks) vs
    moves_are = changes_all h p vs blocks whole.0 (length vs) whole.1 (omega arith) count whole.2

    leads : whole.0 ≡ reassigned p vs blocks
    leads = assigned_all h p vs blocks whole.0 (length vs) whole.1 (omega arith) count whole.2

    pub changes_replayed : replay p (changes h p (reassigned p vs blocks) vs) ≡ reassigned p vs blocks
    changes_replayed = ap (replay p) (sym moves_are) ∙ whole.2.replayed ∙ leads

    pub changes_saved : total_z (λ m. m.booked) (changes h p (reassigned p vs blocks) vs) ≡ pos (cost h p) -ℤ pos (cost h (reassigned p vs blocks))
    changes_saved = ap (total_z (λ (m : Move). m.booked)) (sym moves_are) ∙ whole.2.saved ∙ ap (λ x. pos (cost h p) -ℤ pos (cost h x)) leads

    pub changes_few : length (changes h p (reassigned p vs blocks) vs) ≤ length vs
    changes_few = let e = ap length moves_are in let f = whole.2.few in omega arith

-- ---- the round of the moves of a pair's end

module _ (h : Hyper) (k l : ℕ) (p : List ℕ) (a b before : ℕ) (end : PairEnd) (moves : List Move) (sound : IsHypergraph h)
    (long : length p ≡ vertex_count h) (e : IsPairEnd h k l p a b end)
    (is : moves ≡ changes h p (reassigned p end.region end.blocks) end.region) (known : before ≡ cost h p)
  where
    rises : IsStrictlyIncreasing end.region
    rises = end_rises h k l p a b end e

    vertices_of : All (λ v. v < vertex_count h) end.region
    vertices_of = end_vertices h k l p a b end e sound

    inside : All (λ v. v < length p) end.region
    inside = subst (λ n. All (λ v. v < n) end.region) (sym long) vertices_of

    pub moves_saved : total_z (λ m. m.booked) moves ≡ pos before -ℤ pos (cost h (reassigned p end.region end.blocks))
    moves_saved =
        ap (total_z (λ (m : Move). m.booked)) is ∙ changes_saved h p end.region end.blocks e.blocks_of rises inside
        ∙ ap (λ n. pos n -ℤ pos (cost h (reassigned p end.region end.blocks))) (sym known)

    pub moves_lead : replay p moves ≡ reassigned p end.region end.blocks
    moves_lead = ap (replay p) is ∙ changes_replayed h p end.region end.blocks e.blocks_of rises inside

    pub moves_no_dearer : cost h (reassigned p end.region end.blocks) ≤ before
    moves_no_dearer = let less = end_no_dearer h k l p a b end e in omega arith

    pub moves_few : length moves ≤ vertex_count h
    moves_few =
        let made = ap length is in
        let few = changes_few h p end.region end.blocks e.blocks_of rises inside in
        let most = rising-few end.region (vertex_count h) rises vertices_of in
        omega arith

    pub moves_within : All (λ m. m.vertex < length p) moves
    moves_within =
        subst (All (λ (m : Move). m.vertex < length p)) (sym is)
        (changes-within (λ v. v < length p) h p (reassigned p end.region end.blocks) end.region inside)

    pub moves_recorded : (level : ℕ) (r : LoggedRound) → IsRoundOf level a b before end moves r → RecordsFlow h k l level p a b r
    moves_recorded level r s = record {
      kind = s.kind;
      level_is = s.level_is;
      first = s.first;
      second = s.second;
      untabled = s.untabled;
      flow = flow_recorded h k l p r end.blocks there (subst IsStrictlyIncreasing (sym s.region) rises)
          (subst (All (λ v. v < vertex_count h)) (sym s.region) vertices_of)
          (s.moves_are ∙ is ∙ ap (λ vs. changes h p (reassigned p vs end.blocks) vs) (sym s.region))
          (ap (replay p) s.moves_are ∙ moves_lead ∙ ap (λ vs. reassigned p vs end.blocks) (sym s.region))
          (s.kept ∙ ap length (sym s.moves_are))
          (s.gains ∙ ap (λ (ms : List Move). total_z (λ m. m.booked) ms ∷ []) (sym s.moves_are))
          (s.before_is ∙ known)
          (made ∙ ap (λ vs. cost h (reassigned p vs end.blocks)) (sym s.region))
          s.after;
    }
      where
        made : r.made ≡ cost h (reassigned p end.region end.blocks)
        made = let saved = moves_saved in let after = s.made in omega (arith, ints)

        there : IsPairEnd h k l p r.first r.second (record { region = r.region; blocks = end.blocks; value = r.value })
        there =
            subst (λ x. IsPairEnd h k l p x r.second (record { region = r.region; blocks = end.blocks; value = r.value })) (sym s.first)
            (subst (λ y. IsPairEnd h k l p a y (record { region = r.region; blocks = end.blocks; value = r.value })) (sym s.second)
            (subst (λ vs. IsPairEnd h k l p a b (record { region = vs; blocks = end.blocks; value = r.value })) (sym s.region)
            (subst (λ n. IsPairEnd h k l p a b (record { region = end.region; blocks = end.blocks; value = n })) (sym s.value) e)))
