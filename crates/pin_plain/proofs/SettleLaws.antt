-- Laws of the sweeps that settle a partition.
use Rattle.std.proofs.Common.{◌≡◌, ◌≢◌, inl, inr, ℕ, suc, ◌+◌, ◌<◌, ◌≤◌, ◌^◌, ◌≤ℤ◌, ◌<ℤ◌, negsuc, nat_abs}
use Rattle.std.proofs.Common.{FitsSigned, drop, get_or, All, to_z, of_z, Option}
use Rattle.std.proofs.Common.{Some, None, option_map, option_to_list, false, List, [], ◌∷◌, ◌++◌, ℤ, pos}
use Rattle.std.proofs.Common.{◌-ℤ◌, length, take, refl, sym, ap, subst, ◌∙◌, arith}
use Rattle.std.proofs.lemmas.List.{append_assoc, append-nil, length-append, take_all}
use Rattle.std.specs.Int.{w64}
use Rattle.std.proofs.lemmas.Int.{ints, to_z-of_z}
use Rattle.std.proofs.lemmas.List.Elements.{All-drop, All-head, All-tail}
use Rattle.std.proofs.lemmas.List.FromFn.{length-range_with_len}
use Rattle.hg_defs.specs.declared.moves.Move.{Move}
use Rattle.hg_defs.specs.Sums.{total_z}
use Rattle.hg_defs.specs.Hypergraph.{Hyper, IsWithinLimits, vertex_count, vertices}
use Rattle.hg_defs.specs.Cost.{cost}
use Rattle.hg_defs.specs.Replay.{replay}
use Rattle.hg_defs.specs.Moves.{IsSettled, move_of, best_block, visits, sweep}
use Rattle.hg_defs.proofs.SumLaws.{total_z-take-drop, total_z-take_more}
use Rattle.hg_defs.proofs.MoveLaws.{sweep_best, empty_sweep, settled_sweep, sweep_saves, sweep_lowers}
use Rattle.round_log.specs.declared.record.Kind.TheVariants.{Sweep}
use Rattle.round_log.specs.declared.record.LoggedRound.{LoggedRound}
use Rattle.round_log.specs.Rounds.{after_round, IsSwept}
use Rattle.round_log.specs.Trace.{AreSweeps}
use Rattle.pin_plain.specs.Parted.{Parted}
use Rattle.pin_plain.specs.Settling.{FollowSweeps, AddsSweeps, Settles, BreaksOff}

-- ---- one sweep

length_visits : (h : Hyper) (k l : ℕ) (vs p : List ℕ) → length (visits h k l p vs) ≤ length vs
length_visits h k l [] p = omega arith
length_visits h k l (v ∷ vs) p = by (best_block h l p v k) (λ q. length_visits h k l vs q)
  where
    by : (o : Option ℕ) → ((q : List ℕ) → length (visits h k l q vs) ≤ length vs)
        → length (option_to_list (option_map (move_of h p v) o) ++ visits h k l (replay p (option_to_list (option_map (move_of h p v) o))) vs) ≤ suc
        (length vs)
    by None r = let a = r p in omega arith
    by (Some b) r = let a = r (replay p (move_of h p v b ∷ [])) in omega arith

pub sweep_few : (h : Hyper) (k l : ℕ) (p : List ℕ) → IsWithinLimits h → length (sweep h k l p) < 2 ^ 32
sweep_few h k l p bounds =
    let a = length_visits h k l (vertices h) p in
    let b = length-range_with_len 0 (vertex_count h) in
    let n = bounds.vertices in
    omega arith

pub sweep_some : (h : Hyper) (k l : ℕ) (p : List ℕ) → (IsSettled h k l p → ⊥) → sweep h k l p ≢ []
sweep_some h k l p unsettled e = unsettled (empty_sweep h k l p e)

some_long : (xs : List Move) → xs ≢ [] → 0 < length xs
some_long [] q = absurd (q refl)
some_long (x ∷ xs) q = omega arith

pub sweep_less : (h : Hyper) (k l : ℕ) (p : List ℕ) → (IsSettled h k l p → ⊥) → cost h (replay p (sweep h k l p)) < cost h p
sweep_less h k l p unsettled = sweep_lowers h k l p (some_long (sweep h k l p) (sweep_some h k l p unsettled))

-- ---- what moves save

not_negative : (moves : List Move) → All (λ m. pos 0 ≤ℤ m.booked) moves → pos 0 ≤ℤ total_z (λ (m : Move). m.booked) moves
not_negative [] a = omega (arith, ints)
not_negative (m ∷ moves) a =
    let x = All-head (λ (n : Move). pos 0 ≤ℤ n.booked) m moves a in
    let y = not_negative moves (All-tail (λ (n : Move). pos 0 ≤ℤ n.booked) m moves a) in
    omega (arith, ints)

-- the first moves save no more than all of them
pub saved_first : (moves : List Move) (i : ℕ) → All (λ m. pos 0 ≤ℤ m.booked) moves → total_z (λ (m : Move). m.booked) (take i moves) ≤ℤ total_z
    (λ (m : Move). m.booked) moves
saved_first moves i a =
    let whole = total_z-take-drop (λ (m : Move). m.booked) moves i in
    let rest = not_negative (drop i moves) (All-drop (λ (m : Move). pos 0 ≤ℤ m.booked) i moves a) in
    omega (arith, ints)

-- a gain below 2^57 is what is read of it
small-fits : (z : ℤ) → pos 0 ≤ℤ z → z <ℤ pos (2 ^ 57) → FitsSigned w64 z
small-fits z low high = omega (arith, ints)

pub gain_read : (z : ℤ) → pos 0 ≤ℤ z → z <ℤ pos (2 ^ 57) → pos (nat_abs (to_z w64 (of_z w64 z))) ≡ z
gain_read z low high = ap (λ (x : ℤ). pos (nat_abs x)) (to_z-of_z w64 z (small-fits z low high)) ∙ whole z low
  where
    whole : (z : ℤ) → pos 0 ≤ℤ z → pos (nat_abs z) ≡ z
    whole (pos n) low = refl
    whole (negsuc n) low = absurd (omega (arith, ints))

-- the saving after one move more
pub saved_more : (moves : List Move) (i saved : ℕ) (d : Move) → i < length moves → All (λ m. pos 0 ≤ℤ m.booked) moves → total_z (λ (m : Move). m.booked)
    moves
    <ℤ pos (2 ^ 57)
    → pos saved ≡ total_z (λ (m : Move). m.booked) (take i moves)
    → (pos (saved + nat_abs (to_z w64 (of_z w64 (get_or moves i d).booked))) ≡ total_z (λ (m : Move). m.booked) (take (i + 1) moves))
    × (saved + nat_abs (to_z w64 (of_z w64 (get_or moves i d).booked)) < 2 ^ 57)
saved_more moves i saved d low gains bound so_far =
    let more = total_z-take_more (λ (m : Move). m.booked) moves i d low in
    let before = saved_first moves i gains in
    let after = saved_first moves (i + 1) gains in
    let gain = gains i d low in
    let none : pos 0 ≤ℤ total_z (λ (m : Move). m.booked) (take i moves) = subst (λ (z : ℤ). pos 0 ≤ℤ z) so_far (omega (arith, ints)) in
    let same = gain_read (get_or moves i d).booked gain (omega (arith, ints)) in
    (omega (arith, ints), omega (arith, ints))

pub sweep_gains : (h : Hyper) (k l : ℕ) (p : List ℕ) → All (λ (m : Move). pos 0 ≤ℤ m.booked) (sweep h k l p)
sweep_gains h k l p i d low =
    let best = sweep_best h k l p i d low in
    let gains = best.best.gains in
    subst (λ (z : ℤ). pos 0 ≤ℤ z) (sym best.booked) (omega (arith, ints))

pub sweep_bound : (h : Hyper) (k l : ℕ) (p : List ℕ) → cost h p < 2 ^ 57 → total_z (λ (m : Move). m.booked) (sweep h k l p) <ℤ pos (2 ^ 57)
sweep_bound h k l p small = let all = sweep_saves h k l p in omega (arith, ints)

-- the cost after a sweep is the cost before it less what its moves save
pub sweep_after : (h : Hyper) (k l : ℕ) (p : List ℕ) (moves : List Move) (saved : ℕ) → moves ≡ sweep h k l p → pos saved ≡ total_z (λ (m : Move). m.booked)
    moves
    → cost h (replay p (sweep h k l p)) + saved ≡ cost h p
sweep_after h k l p moves saved e s =
    let all = sweep_saves h k l p in
    let same = ap (total_z (λ (m : Move). m.booked)) e in
    omega (arith, ints)

-- ---- its round

-- the round of a sweep
abbrev pub round_of : List Move → ℕ → ℕ → LoggedRound
round_of moves before after = record {
  kind = Sweep;
  level = 0;
  moves = moves;
  kept = length moves;
  gains = (pos before -ℤ pos after) ∷ [];
  before = before;
  made = after;
  after = after;
  first = 0;
  second = 0;
  region = [];
  value = 0;
  tabled = false;
}

pub round_swept : (h : Hyper) (k l : ℕ) (p : List ℕ) → (IsSettled h k l p → ⊥) →
    IsSwept h k l p (round_of (sweep h k l p) (cost h p) (cost h (replay p (sweep h k l p))))
round_swept h k l p unsettled = record {
  moves = refl;
  some = sweep_some h k l p unsettled;
  gains = ap (λ (z : ℤ). z ∷ []) (sym (sweep_saves h k l p));
  before = refl;
  kept = refl;
  made = refl;
  after = refl;
  no_pair = record { first = refl; second = refl; value = refl; region = refl };
}

after_swept : (p : List ℕ) (moves : List Move) → replay p (take (length moves) moves) ≡ replay p moves
after_swept p moves = ap (replay p) (take_all (length moves) moves (omega arith))

follow_more : (h : Hyper) (k l : ℕ) (p q : List ℕ) (rounds : List LoggedRound) → FollowSweeps h k l p rounds q → (IsSettled h k l q → ⊥) →
    FollowSweeps h k l p (rounds ++ round_of (sweep h k l q) (cost h q) (cost h (replay q (sweep h k l q))) ∷ []) (replay q (sweep h k l q))
follow_more h k l p q [] e unsettled =
    subst (λ (r : List ℕ). FollowSweeps h k l r (round_of (sweep h k l q) (cost h q) (cost h (replay q (sweep h k l q))) ∷ []) (replay q (sweep h k l q))) e
    (refl, refl, refl, round_swept h k l q unsettled, sym (after_swept q (sweep h k l q)))
follow_more h k l p q (r ∷ rounds) f unsettled = (f.0, f.1, f.2, f.3, follow_more h k l (after_round p r) q rounds f.4 unsettled)

pub added_more :
    (h : Hyper) (k l : ℕ) (p q : List ℕ) (old now later : List LoggedRound) (number : ℕ) → AddsSweeps h k l p q old now number → (IsSettled h k l q → ⊥)
    → later ≡ now ++ round_of (sweep h k l q) (cost h q) (cost h (replay q (sweep h k l q))) ∷ []
    → AddsSweeps h k l p (replay q (sweep h k l q)) old later (number + 1)
added_more h k l p q old now later number a unsettled e = record {
  rounds = a.rounds ++ round_of (sweep h k l q) (cost h q) (cost h (replay q (sweep h k l q))) ∷ [];
  log = e ∙ ap (λ xs. xs ++ round_of (sweep h k l q) (cost h q) (cost h (replay q (sweep h k l q))) ∷ []) a.log ∙ append_assoc old a.rounds
      (round_of (sweep h k l q) (cost h q) (cost h (replay q (sweep h k l q))) ∷ []);
  sweeps = follow_more h k l p q a.rounds a.sweeps unsettled;
  count = let n = a.count in let len = length-append a.rounds (round_of (sweep h k l q) (cost h q) (cost h (replay q (sweep h k l q))) ∷ []) in omega arith;
}

pub added_none : (h : Hyper) (k l : ℕ) (p : List ℕ) (old : List LoggedRound) → AddsSweeps h k l p p old old 0
added_none h k l p old = record { rounds = []; log = sym (append-nil old); sweeps = refl; count = refl }

-- ---- the end

settled_sweeps : (h : Hyper) (k l : ℕ) (p q : List ℕ) (rounds : List LoggedRound) → FollowSweeps h k l p rounds q → IsSettled h k l q →
    AreSweeps h k l p rounds q
settled_sweeps h k l p q [] e settled = (e, subst (IsSettled h k l) e settled)
settled_sweeps h k l p q (r ∷ rounds) f settled = (f.0, f.1, f.2, f.3, settled_sweeps h k l (after_round p r) q rounds f.4 settled)

pub settles : (h : Hyper) (k l : ℕ) (p q : List ℕ) (old new : List LoggedRound) (number : ℕ) → AddsSweeps h k l p q old new number → IsSettled h k l q →
    Settles h k l p q old new number
settles h k l p q old new number a settled = record {
  rounds = a.rounds;
  log = a.log;
  sweeps = settled_sweeps h k l p q a.rounds a.sweeps settled;
  count = a.count;
}

pub breaks_before : (h : Hyper) (k l : ℕ) (p q : List ℕ) (old new : List LoggedRound) (number : ℕ) → AddsSweeps h k l p q old new number →
    BreaksOff h k l p q old new
breaks_before h k l p q old new number a = record { number = number; last = q; added = a; now = inl refl }

pub breaks_after : (h : Hyper) (k l : ℕ) (p q r : List ℕ) (old new : List LoggedRound) (number : ℕ) → AddsSweeps h k l p q old new number →
    r ≡ replay q (sweep h k l q) → BreaksOff h k l p r old new
breaks_after h k l p q r old new number a e = record { number = number; last = q; added = a; now = inr e }

-- ---- one turn, of the partition as it is now

module _ (h : Hyper) (first now new : Parted) (same : now ≡ record first { blocks = now.blocks })
    (after : new ≡ record now { blocks = replay now.blocks (sweep h now.k now.limit now.blocks) }) where
  new_blocks : new.blocks ≡ replay now.blocks (sweep h now.k now.limit now.blocks)
  new_blocks = ap (λ (x : Parted). x.blocks) after

  same_k : now.k ≡ first.k
  same_k = ap (λ (x : Parted). x.k) same

  same_limit : now.limit ≡ first.limit
  same_limit = ap (λ (x : Parted). x.limit) same

  -- what is said of the present number of blocks and limit holds of the first ones
  at_first : (P : ℕ → ℕ → Type 0) → P now.k now.limit → P first.k first.limit
  at_first P x = subst (λ n. P n first.limit) same_k (subst (P now.k) same_limit x)

  pub settle_less : (IsSettled h now.k now.limit now.blocks → ⊥) → cost h new.blocks < cost h now.blocks
  settle_less unsettled = subst (λ (q : List ℕ). cost h q < cost h now.blocks) (sym new_blocks) (sweep_less h now.k now.limit now.blocks unsettled)

  pub settle_after : (moves : List Move) (saved : ℕ) → moves ≡ sweep h now.k now.limit now.blocks → pos saved ≡ total_z (λ (m : Move). m.booked) moves →
      cost h new.blocks + saved ≡ cost h now.blocks
  settle_after moves saved e s = subst (λ (q : List ℕ). cost h q + saved ≡ cost h now.blocks) (sym new_blocks)
      (sweep_after h now.k now.limit now.blocks moves
      saved e s)

  pub settle_end : (old logged : List LoggedRound) (number : ℕ) → IsSettled h now.k now.limit now.blocks → AddsSweeps h first.k first.limit first.blocks
      now.blocks old logged number → Settles h first.k first.limit first.blocks new.blocks old logged number
  settle_end old logged number settled added =
      subst (λ (q : List ℕ). Settles h first.k first.limit first.blocks q old logged number)
      (sym (new_blocks ∙ ap (replay now.blocks) (settled_sweep h now.k now.limit now.blocks settled)))
      (settles h first.k first.limit first.blocks now.blocks old logged number added (at_first (λ n m. IsSettled h n m now.blocks) settled))

  pub settle_more :
      (old logged later : List LoggedRound) (number : ℕ) (moves : List Move) (before after_cost : ℕ) (round : LoggedRound) →
      (IsSettled h now.k now.limit now.blocks → ⊥)
      → moves ≡ sweep h now.k now.limit now.blocks → before ≡ cost h now.blocks → after_cost ≡ cost h new.blocks → round ≡ round_of moves before
      after_cost →
      later ≡ logged ++ round ∷ []
      → AddsSweeps h first.k first.limit first.blocks now.blocks old logged number
      → AddsSweeps h first.k first.limit first.blocks new.blocks old later (number + 1)
  settle_more old logged later number moves before after_cost round unsettled em eb ea er el added =
      subst (λ (q : List ℕ). AddsSweeps h first.k first.limit first.blocks q old later (number + 1))
      (sym (new_blocks ∙ at_first (λ n m. replay now.blocks (sweep h now.k now.limit now.blocks) ≡ replay now.blocks (sweep h n m now.blocks)) refl))
      (added_more h first.k first.limit first.blocks now.blocks old logged later number added (λ settled. unsettled (back settled))
      (el ∙ ap (λ (r : LoggedRound). logged ++ r ∷ []) (er ∙ ap (λ (ms : List Move). round_of ms before after_cost) em ∙
      ap (λ (b : ℕ). round_of (sweep h now.k now.limit now.blocks) b after_cost) eb
      ∙ ap (round_of (sweep h now.k now.limit now.blocks) (cost h now.blocks)) (ea ∙ ap (cost h) new_blocks)
      ∙ at_first (λ n m. round_of (sweep h now.k now.limit now.blocks) (cost h now.blocks)
      (cost h (replay now.blocks (sweep h now.k now.limit now.blocks))) ≡
      round_of (sweep h n m now.blocks) (cost h now.blocks) (cost h (replay now.blocks (sweep h n m now.blocks)))) refl)))
    where
      back : IsSettled h first.k first.limit now.blocks → IsSettled h now.k now.limit now.blocks
      back s = subst (λ n. IsSettled h n now.limit now.blocks) (sym same_k) (subst (λ m. IsSettled h first.k m now.blocks) (sym same_limit) s)
