-- The moves that assign a region anew, and the round that records them.
use Rattle.std.proofs.Common.{◌≡◌, ◌≢◌, ◌⊎◌, inl, inr, ℕ, ◌+◌, ◌-◌, ◌^◌, ◌<◌, ◌≤◌, Bool, true, false, nat_eq, if◌then◌else◌, List}
use Rattle.std.proofs.Common.{[], ◌∷◌, ◌++◌, length, filter, drop, All, Contains, ℤ, to_z, of_z, pos, ◌-ℤ◌, refl, sym, ap, ap₂, subst, ◌∙◌, arith}
use Rattle.std.proofs.Common.{slice_index, slice_set, get_or-set_other, true≢false}
use Rattle.std.specs.List.{range_with_len}
use Rattle.std.specs.List.Sorted.{IsStrictlyIncreasing}
use Rattle.std.specs.Set.{is_member}
use mir.Syntax.{w64, w128}
use Rattle.std.proofs.lemmas.Bool.{cases_eq, eq-eqb, eqb-true}
use Rattle.std.proofs.lemmas.Int.{ints}
use Rattle.std.proofs.lemmas.List.{append_assoc, append-nil, length-append, set-get_or, drop_all}
use Rattle.std.proofs.lemmas.List.Elements.{All-nil, All-cons, All-head, All-tail, All-contains}
use Rattle.hg_defs.specs.declared.moves.Move.{Move}
use Rattle.hg_defs.specs.Sums.{total_z}
use Rattle.hg_defs.specs.Hypergraph.{Hyper, vertex_count, vertices}
use Rattle.hg_defs.specs.Partition.{Fits, block_of}
use Rattle.hg_defs.specs.Cost.{cost}
use Rattle.hg_defs.specs.Moves.{gain}
use Rattle.hg_defs.specs.Replay.{replay, replay_first}
use Rattle.hg_defs.proofs.SumLaws.{total_z-append}
use Rattle.hg_defs.proofs.ReplayLaws.{replay-append, replay_first-all}
use Rattle.round_log.specs.declared.record.LoggedRound.{LoggedRound}
use Rattle.round_log.specs.Rounds.{changes, IsAssignment, IsFlowRound, after_round, pair_cost}
use Rattle.flow_pair.specs.PairEnds.{reassigned, IsPairEnd}
use Rattle.flow_pair.specs.Turns.{change}
use Rattle.flow_pair.specs.PairNetwork.{AreOfPair}
use Rattle.flow_pair.proofs.PairLaws.{among, IsRearranged, rearranged}
use Rattle.flow_pair.proofs.EndLaws.{region_pair}
use Rattle.flow_pair.proofs.MemberLaws.{member_true, member_of, Contains-from_range, rising_is_filter}
use Rattle.flow_pair.proofs.NetLaws.{all_of}
use Rattle.flow_pair.proofs.ReassignLaws.{reassigned-at, reassigned-first, drop_here, rising-later}

-- ---- a vertex that keeps its block makes no move

unmoved : (p : List ℕ) (v b : ℕ) → block_of p v ≡ b → slice_set p v b ≡ p
unmoved p v b e = ap (slice_set p v) (sym e) ∙ set-get_or p v 0

-- a change and those after it
abbrev pub put_change : Hyper → List ℕ → ℕ → ℕ → List Move → List Move
put_change h p v b later =
    if nat_eq (block_of p v) b then later else (record { vertex = v; from = block_of p v; to = b; worker = 0; booked = gain h p v b } ∷ later)

put_change-append : (h : Hyper) (p : List ℕ) (v b : ℕ) (later : List Move) → put_change h p v b later ≡ change h p v b ++ later
put_change-append h p v b later = by (nat_eq (block_of p v) b)
  where
    by : (t : Bool) → (if t then later else (record { vertex = v; from = block_of p v; to = b; worker = 0; booked = gain h p v b } ∷ later))
        ≡ (if t then [] else (record { vertex = v; from = block_of p v; to = b; worker = 0; booked = gain h p v b } ∷ [])) ++ later
    by true = refl
    by false = refl

changes-kept : (h : Hyper) (p q : List ℕ) (test : ℕ → Bool) (vs : List ℕ) → ((v : ℕ) → test v ≡ false → block_of p v ≡ block_of q v)
    → changes h p q vs ≡ changes h p q (filter test vs)
changes-kept h p q test [] same = refl
changes-kept h p q test (v ∷ vs) same =
    by (test v) refl (changes-kept h (slice_set p v (block_of q v)) q test vs) (changes-kept h p q test vs same)
  where
    by : (t : Bool) → test v ≡ t
        → (((u : ℕ) → test u ≡ false → block_of (slice_set p v (block_of q v)) u ≡ block_of q u)
        → changes h (slice_set p v (block_of q v)) q vs ≡ changes h (slice_set p v (block_of q v)) q (filter test vs))
        → changes h p q vs ≡ changes h p q (filter test vs)
        → changes h p q (v ∷ vs) ≡ changes h p q (if t then v ∷ filter test vs else filter test vs)
    by true e rest kept = ap (put_change h p v (block_of q v)) (rest (λ u f. still u f (cases_eq u v)))
      where
        still : (u : ℕ) → test u ≡ false → (u ≡ v) ⊎ (u ≢ v) → block_of (slice_set p v (block_of q v)) u ≡ block_of q u
        still u f (inl g) = absurd (true≢false (sym e ∙ ap test (sym g) ∙ f))
        still u f (inr n) = get_or-set_other p v u (block_of q v) 0 n ∙ same u f
    by false e rest kept =
        let here : block_of p v ≡ block_of q v = same v e in
        ap (λ t. if t then changes h (slice_set p v (block_of q v)) q vs else
        (record { vertex = v; from = block_of p v; to = block_of q v; worker = 0; booked = gain h p v (block_of q v) } ∷
        changes h (slice_set p v (block_of q v)) q vs)) (eq-eqb (block_of p v) (block_of q v) here)
        ∙ ap (λ x. changes h x q vs) (unmoved p v (block_of q v) here) ∙ kept

-- ---- the vertices of a list, found among all

members_kept : (n : ℕ) (vs : List ℕ) → IsStrictlyIncreasing vs → All (λ v. v < n) vs → filter (is_member nat_eq vs) (range_with_len 0 n) ≡ vs
members_kept n vs rising below =
    sym (rising_is_filter vs (is_member nat_eq vs) n rising (λ v c. (All-contains (λ u. u < n) vs v below c, member_true vs v c))
    (λ v low e. member_of vs v e))

-- the changes are those of the vertices that were assigned anew
changes-region : (h : Hyper) (p q : List ℕ) (a b : ℕ) (vs : List ℕ) → IsStrictlyIncreasing vs → All (λ v. v < vertex_count h) vs → IsAssignment p a b vs q
    → changes h p q (vertices h) ≡ changes h p q vs
changes-region h p q a b vs rising below s =
    changes-kept h p q (is_member nat_eq vs) (vertices h) (λ v e. same v e (among v vs))
    ∙ ap (changes h p q) (members_kept (vertex_count h) vs rising below)
  where
    same : (v : ℕ) → is_member nat_eq vs v ≡ false → Contains vs v ⊎ All (λ u. u ≢ v) vs → block_of p v ≡ block_of q v
    same v e (inl c) = absurd (true≢false (sym (member_true vs v c) ∙ e))
    same v e (inr n) = sym (s.outside v n)

-- ---- vertex by vertex

-- the vertices before place i got their blocks, and these are the moves so far
pub record IsAssigning (h : Hyper) (p vs blocks : List ℕ) (i : ℕ) (q : List ℕ) (moves : List Move) : Type 0 where
  pub rest : reassigned q (drop i vs) (drop i blocks) ≡ reassigned p vs blocks
  pub made : moves ++ changes h q (reassigned p vs blocks) (drop i vs) ≡ changes h p (reassigned p vs blocks) vs
  pub replayed : replay p moves ≡ q
  pub saved : total_z (λ m. m.booked) moves ≡ pos (cost h p) -ℤ pos (cost h q)
  pub few : length moves ≤ i

module _ (h : Hyper) (p : List ℕ) (v b : ℕ) where
  change-replayed : replay p (change h p v b) ≡ slice_set p v b
  change-replayed = by (nat_eq (block_of p v) b) refl
    where
      by : (t : Bool) → nat_eq (block_of p v) b ≡ t
          → replay p (if t then [] else (record { vertex = v; from = block_of p v; to = b; worker = 0; booked = gain h p v b } ∷ [])) ≡ slice_set p v b
      by true e = sym (unmoved p v b (eqb-true (block_of p v) b e))
      by false e = refl

  change-saved : total_z (λ (m : Move). m.booked) (change h p v b) ≡ pos (cost h p) -ℤ pos (cost h (slice_set p v b))
  change-saved = by (nat_eq (block_of p v) b) refl
    where
      by : (t : Bool) → nat_eq (block_of p v) b ≡ t
          → total_z (λ (m : Move). m.booked) (if t then [] else (record { vertex = v; from = block_of p v; to = b; worker = 0; booked = gain h p v b } ∷ []))
          ≡ pos (cost h p) -ℤ pos (cost h (slice_set p v b))
      by true e = let same = ap (cost h) (unmoved p v b (eqb-true (block_of p v) b e)) in omega (arith, ints)
      by false e = omega (arith, ints)

  change-few : length (change h p v b) ≤ 1
  change-few = by (nat_eq (block_of p v) b)
    where
      by : (t : Bool) → length {A = Move} (if t then [] else (record { vertex = v; from = block_of p v; to = b; worker = 0; booked = gain h p v b } ∷ [])) ≤ 1
      by true = omega arith
      by false = omega arith

pub assigning_more : (h : Hyper) (p vs blocks : List ℕ) (i : ℕ) (q : List ℕ) (moves more : List Move) → i < length vs → length blocks ≡ length vs
    → IsStrictlyIncreasing vs → All (λ v. v < length p) vs → more ≡ moves ++ change h q (slice_index vs i) (slice_index blocks i)
    → IsAssigning h p vs blocks i q moves
    → IsAssigning h p vs blocks (i + 1) (slice_set q (slice_index vs i) (slice_index blocks i)) more
assigning_more h p vs blocks i q moves more inside count rising below is s = record {
  rest = reassigned-first q v b (drop (i + 1) vs) (drop (i + 1) blocks) (rising-later vs i rising inside)
      ∙ sym (ap₂ (reassigned q) (drop_here vs i inside) (drop_here blocks i (omega arith))) ∙ s.rest;
  made = ap (λ (xs : List Move). xs ++ later) is ∙ append_assoc moves (change h q v b) later
      ∙ ap (λ (xs : List Move). moves ++ xs) (sym (put_change-append h q v b later)
      ∙ ap (λ x. put_change h q v x (changes h (slice_set q v x) (reassigned p vs blocks) (drop (i + 1) vs))) (sym at)
      ∙ ap (changes h q (reassigned p vs blocks)) (sym (drop_here vs i inside))) ∙ s.made;
  replayed = ap (replay p) is ∙ replay-append p moves (change h q v b) ∙ ap (λ x. replay x (change h q v b)) s.replayed ∙ change-replayed h q v b;
  saved =
      let sum = ap (total_z (λ (m : Move). m.booked)) is ∙ total_z-append (λ (m : Move). m.booked) moves (change h q v b) in
      let here = change-saved h q v b in
      let before = s.saved in
      omega (arith, ints);
  few = let all = ap length is ∙ length-append moves (change h q v b) in let one = change-few h q v b in let few = s.few in omega arith;
}
  where
    v : ℕ
    v = slice_index vs i

    b : ℕ
    b = slice_index blocks i

    later : List Move
    later = changes h (slice_set q v b) (reassigned p vs blocks) (drop (i + 1) vs)

    at : block_of (reassigned p vs blocks) v ≡ b
    at = reassigned-at p vs blocks i rising below count inside

-- all of them did
module _ (h : Hyper) (p vs blocks q : List ℕ) (i : ℕ) (moves : List Move) (end : length vs ≤ i) (count : length blocks ≡ length vs)
    (s : IsAssigning h p vs blocks i q moves)
  where
    pub assigned_all : q ≡ reassigned p vs blocks
    assigned_all =
        sym (ap₂ (reassigned q) (drop_all i vs end) (drop_all i blocks (omega arith))) ∙ s.rest

    pub changes_all : moves ≡ changes h p (reassigned p vs blocks) vs
    changes_all =
        sym (append-nil moves) ∙ sym (ap (λ xs. moves ++ changes h q (reassigned p vs blocks) xs) (drop_all i vs end)) ∙ s.made

-- ---- the numbers of the record

pub saved_is : (s : ℤ) (o m : ℕ) → s ≡ pos o -ℤ pos m → o < 2 ^ 57 → m ≤ o → to_z w128 (of_z w128 s) ≡ pos (o - m)
saved_is s o m a b c = omega (arith, ints)

pub gain_is : (s : ℤ) (o m : ℕ) → s ≡ pos o -ℤ pos m → o < 2 ^ 57 → m ≤ o → to_z w64 (of_z w64 (to_z w128 (of_z w128 s))) ≡ s
gain_is s o m a b c = omega (arith, ints)

pub after_is : (f s : ℤ) (o m : ℕ) → f ≡ pos o → s ≡ pos o -ℤ pos m → o < 2 ^ 57 → m ≤ o
    → to_z w128 (of_z w128 (to_z w128 (of_z w128 f) -ℤ to_z w128 (of_z w128 s))) ≡ pos m
after_is f s o m a b c d = omega (arith, ints)

-- ---- the record

-- a round with the changes of a region that was assigned as the end of its pair says
module _ (h : Hyper) (k l : ℕ) (p : List ℕ) (r : LoggedRound) (blocks : List ℕ)
    (s : IsPairEnd h k l p r.first r.second (record { region = r.region; blocks = blocks; value = r.value }))
    (rising : IsStrictlyIncreasing r.region) (below : All (λ v. v < vertex_count h) r.region)
    (moves : r.moves ≡ changes h p (reassigned p r.region blocks) r.region) (replayed : replay p r.moves ≡ reassigned p r.region blocks)
    (kept : r.kept ≡ length r.moves) (gains : r.gains ≡ total_z (λ m. m.booked) r.moves ∷ [])
    (before : r.before ≡ cost h p) (made : r.made ≡ cost h (reassigned p r.region blocks)) (after : r.after ≡ r.made)
  where
    landed : after_round p r ≡ reassigned p r.region blocks
    landed = ap (replay_first p r.moves) kept ∙ replay_first-all p r.moves ∙ replayed

    pub flow_recorded : IsFlowRound h k l p r
    flow_recorded = record {
      region = s.vertices_of;
      assigned = subst (IsAssignment p r.first r.second r.region) (sym landed) s.assigned;
      fits = subst (Fits h k l) (sym landed) s.fits;
      cheapest = λ q t. subst (λ x. cost h x ≤ cost h q) (sym landed) (s.cheapest q t);
      value = s.value ∙ ap (λ x. pair_cost h x r.first r.second) (sym landed);
      moves = moves ∙ sym (changes-region h p (reassigned p r.region blocks) r.first r.second r.region rising below s.assigned)
          ∙ ap (λ x. changes h p x (vertices h)) (sym landed);
      kept = kept;
      gains = gains;
      before = before;
      made = made ∙ ap (cost h) (sym landed);
      after = after;
    }

-- ---- what the record says of its moves

pub changes-within : (P : ℕ → Type 0) (h : Hyper) (p q vs : List ℕ) → All P vs → All (λ m. P m.vertex) (changes h p q vs)
changes-within P h p q [] all = All-nil (λ (m : Move). P m.vertex)
changes-within P h p q (v ∷ vs) all =
    by (nat_eq (block_of p v) (block_of q v)) (changes-within P h (slice_set p v (block_of q v)) q vs (All-tail P v vs all))
  where
    by : (t : Bool) → All (λ m. P m.vertex) (changes h (slice_set p v (block_of q v)) q vs)
        → All (λ m. P m.vertex) (if t then changes h (slice_set p v (block_of q v)) q vs else
        (record { vertex = v; from = block_of p v; to = block_of q v; worker = 0; booked = gain h p v (block_of q v) } ∷
        changes h (slice_set p v (block_of q v)) q vs))
    by true later = later
    by false later = All-cons (λ (m : Move). P m.vertex)
        (record { vertex = v; from = block_of p v; to = block_of q v; worker = 0; booked = gain h p v (block_of q v) })
        (changes h (slice_set p v (block_of q v)) q vs) (All-head P v vs all) later

module _ (h : Hyper) (k l : ℕ) (p : List ℕ) (r : LoggedRound) (s : IsFlowRound h k l p r) where
  pub flow_replayed : after_round p r ≡ replay p r.moves
  flow_replayed = ap (replay_first p r.moves) s.kept ∙ replay_first-all p r.moves

  pub flow_rearranged : IsRearranged p (after_round p r) r.first r.second
  flow_rearranged =
      rearranged p (after_round p r) r.region r.first r.second
      (subst (AreOfPair p r.first r.second) (sym s.region) (region_pair h l p r.first r.second)) s.assigned

  pub flow_vertices : All (λ m. m.vertex < vertex_count h) r.moves
  flow_vertices =
      subst (All (λ (m : Move). m.vertex < vertex_count h)) (sym s.moves)
      (changes-within (λ v. v < vertex_count h) h p (after_round p r) (vertices h)
      (all_of (λ v. v < vertex_count h) (vertices h) (λ v c. Contains-from_range (vertex_count h) v c)))
