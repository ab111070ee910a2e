-- Laws of the best prefix that was found among the first ones.
use Rattle.std.proofs.Common.{◌≡◌, ℕ, ◌+◌, ◌-◌, ◌<◌, ◌≤◌, ◌⊎◌, inl, inr, true, false, ℤ, pos, ◌-ℤ◌, nat_abs, List, length, sym, ap, ◌∙◌, subst, arith}
use lib.Signed.{lt_z}
use Rattle.std.proofs.lemmas.Int.{ints}
use Rattle.std.proofs.lemmas.List.{take_all}
use Rattle.std.proofs.lemmas.Bool.{cases_eq, cases_lt}
use Rattle.hg_defs.specs.declared.moves.Move.{Move}
use Rattle.hg_defs.specs.Hypergraph.{Hyper}
use Rattle.hg_defs.specs.Partition.{Fits}
use Rattle.hg_defs.specs.Cost.{cost}
use Rattle.hg_defs.specs.Replay.{replay, replay_first, best_prefix}
use Rattle.hg_defs.proofs.ReplayLaws.{only_best_prefix}

-- the best of the prefixes up to a length
pub record IsBestUpTo (h : Hyper) (k l : ℕ) (p : List ℕ) (moves : List Move) (i j : ℕ) : Type 0 where
  pub within : j ≤ i
  pub fits : Fits h k l (replay_first p moves j)
  pub cheapest : (x : ℕ) → x ≤ i → Fits h k l (replay_first p moves x) → cost h (replay_first p moves j) ≤ cost h (replay_first p moves x)
  pub shortest : (x : ℕ) → x < j → Fits h k l (replay_first p moves x) → cost h (replay_first p moves j) < cost h (replay_first p moves x)

module _ (h : Hyper) (k l : ℕ) (p : List ℕ) (moves : List Move) where
  pub best_first : Fits h k l p → IsBestUpTo h k l p moves 0 0
  best_first f = record {
    within = omega arith;
    fits = f;
    cheapest = λ x m g. let e : x ≡ 0 = omega arith in let q = ap (λ y. cost h (replay_first p moves y)) e in omega arith;
    shortest = λ x m g. absurd (omega arith);
  }

  -- the next prefix is better
  pub best_new : (i j : ℕ) → IsBestUpTo h k l p moves i j → Fits h k l (replay_first p moves (i + 1)) → cost h (replay_first p moves (i + 1)) < cost h
      (replay_first p moves j)
      → IsBestUpTo h k l p moves (i + 1) (i + 1)
  best_new i j b f c = record {
    within = omega arith;
    fits = f;
    cheapest = λ x m g. by x m g (cases_eq x (i + 1));
    shortest = λ x m g. let a = b.cheapest x (omega arith) g in omega arith;
  }
    where
      by : (x : ℕ) → x ≤ i + 1 → Fits h k l (replay_first p moves x) → (x ≡ i + 1) ⊎ (x ≡ i + 1 → ⊥) → cost h (replay_first p moves (i + 1)) ≤ cost h
          (replay_first p moves x)
      by x m g (inl e) = let q = ap (λ y. cost h (replay_first p moves y)) e in omega arith
      by x m g (inr q) = let a = b.cheapest x (omega arith) g in omega arith

  -- the next prefix doesn't fit, or isn't cheaper
  pub best_same : (i j : ℕ) → IsBestUpTo h k l p moves i j → (Fits h k l (replay_first p moves (i + 1)) → cost h (replay_first p moves j) ≤ cost h
      (replay_first p moves (i + 1)))
      → IsBestUpTo h k l p moves (i + 1) j
  best_same i j b c = record {
    within = let w = b.within in omega arith;
    fits = b.fits;
    cheapest = λ x m g. by x m g (cases_eq x (i + 1));
    shortest = b.shortest;
  }
    where
      by : (x : ℕ) → x ≤ i + 1 → Fits h k l (replay_first p moves x) → (x ≡ i + 1) ⊎ (x ≡ i + 1 → ⊥) → cost h (replay_first p moves j) ≤ cost h
          (replay_first p moves x)
      by x m g (inl e) =
          let q = ap (λ y. cost h (replay_first p moves y)) e in
          let a = c (subst (λ y. Fits h k l (replay_first p moves y)) e g) in
          omega arith
      by x m g (inr q) = b.cheapest x (omega arith) g

  -- the best of all
  pub best_is : (i j : ℕ) → length moves ≤ i → i ≤ length moves → Fits h k l p → IsBestUpTo h k l p moves i j → j ≡ best_prefix h k l p moves
  best_is i j m n f b = only_best_prefix h k l p moves j f (record {
    within = let w = b.within in omega arith;
    fits = b.fits;
    cheapest = λ x g. by x g (cases_lt i x);
    shortest = b.shortest;
  })
    where
      by : (x : ℕ) → Fits h k l (replay_first p moves x) → (i < x) ⊎ (x ≤ i) → cost h (replay_first p moves j) ≤ cost h (replay_first p moves x)
      by x g (inr le) = b.cheapest x le g
      by x g (inl lt) =
          let same : replay_first p moves x ≡ replay_first p moves i = ap (replay p) (take_all x moves (omega arith) ∙ sym (take_all i moves m)) in
          let a = b.cheapest i (omega arith) (subst (Fits h k l) same g) in
          let q = ap (cost h) same in
          omega arith

-- ---- a sum that is above another one

pub above : (m s : ℤ) (x j n : ℕ) → m ≡ pos x -ℤ pos j → s ≡ pos x -ℤ pos n → lt_z m s ≡ true → n < j
above m s x j n e f t = omega (arith, ints)

pub not_above : (m s : ℤ) (x j n : ℕ) → m ≡ pos x -ℤ pos j → s ≡ pos x -ℤ pos n → lt_z m s ≡ false → j ≤ n
not_above m s x j n e f t = omega (arith, ints)

-- a sum that isn't negative is kept where it is made a number
pub sum_kept : (m : ℤ) (x j : ℕ) → m ≡ pos x -ℤ pos j → j ≤ x → pos (nat_abs m) ≡ pos x -ℤ pos j
sum_kept m x j e l =
    let same : m ≡ pos (x - j) = omega (arith, ints) in
    ap (λ z. pos (nat_abs z)) same ∙ omega (arith, ints)
