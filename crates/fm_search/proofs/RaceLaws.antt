-- The passes of a round, and the workers that have them.
use Rattle.std.proofs.Common.{◌≡◌, ℕ, ◌<◌, List, [], ◌∷◌, ◌++◌, length, map, take, drop, get_or, All, sym, ap, subst, ◌∙◌, arith}
use Rattle.std.proofs.lemmas.List.{length-map, get_or-map, append-nil, take_all, drop_all}
use Rattle.move_core.specs.declared.account.Account.{Account}
use Rattle.move_core.specs.declared.account.Stage.TheVariants.{Idle}
use Rattle.move_table.specs.Calls.{RacedRound, RacedPass, AreFresh, IsPassOf}
use Rattle.move_table.specs.Closing.{ArePassesOf}
use Rattle.fm_search.specs.declared.memory.Memory.{Memory}
use Rattle.fm_search.specs.declared.worker.Worker.{Worker}
use Rattle.fm_search.specs.Memory.{IsMemoryFor}
use Rattle.fm_search.specs.Opened.{IsBelow}
use Rattle.fm_search.specs.Standing.{Standing, standing_of}
use Rattle.fm_search.specs.Workers.{IsFreshAt, AreWorkers, AreFreshWorkers}

module _ (r : RacedRound) (k : ℕ) (workers : List Worker) where
  pub as_many : (passes : List RacedPass) → map (λ w. w.mover) workers ≡ map standing_of passes → length workers ≡ length passes
  as_many passes movers = sym (length-map workers (λ w. w.mover)) ∙ ap length movers ∙ length-map passes standing_of

  standing_at : (passes : List RacedPass) → map (λ w. w.mover) workers ≡ map standing_of passes → (i : ℕ) (w : Worker) (p : RacedPass) → i < length passes
      → (get_or workers i w).mover ≡ standing_of (get_or passes i p)
  standing_at passes movers i w p l =
      let n = as_many passes movers in
      sym (get_or-map (λ u. u.mover) workers i w (standing_of p) (omega arith))
      ∙ ap (λ xs. get_or xs i (standing_of p)) movers
      ∙ get_or-map standing_of passes i p (standing_of p) l

  pub fresh_workers : (passes : List RacedPass) → AreFresh r.table r.terms passes → map (λ w. w.mover) workers ≡ map standing_of passes
      → All (λ w. w.desk.blocks ≡ k) workers → AreFreshWorkers r k workers
  fresh_workers passes fresh movers blocks i w l = by passes fresh movers (let n = as_many passes movers in omega arith)
    where
      by : (passes : List RacedPass) → AreFresh r.table r.terms passes → map (λ w. w.mover) workers ≡ map standing_of passes → i < length passes
          → IsFreshAt r k i (get_or workers i w)
      by [] fresh movers low = absurd (omega arith)
      by (p ∷ passes) fresh movers low =
          let f = fresh.each i p low in
          let s = standing_at (p ∷ passes) movers i w p low in
          record {
            at = record {
              belongs = record {
                same_table = ap (λ (x : Standing). x.table) s ∙ f.same_table;
                same_terms = ap (λ (x : Standing). x.terms) s ∙ f.same_terms;
              };
              blocks = blocks i w l;
              number = ap (λ (x : Standing). x.number) s ∙ f.number;
            };
            seeds = ap (λ (x : Standing). x.seeds) s ∙ ap (λ (a : Account). a.seeds) f.account;
          }

  -- the memory of each is for as many blocks as it was
  pub same_blocks : AreWorkers r k workers → All (λ w. w.desk.blocks ≡ k) workers
  same_blocks s i w l = (s i w l).blocks

  pub passes_again : (passes : List RacedPass) → AreWorkers r k workers → map standing_of passes ≡ map (λ w. w.mover) workers
      → All (λ p. p.view.account.stage ≡ Idle) passes → length workers ≡ r.terms.workers → ArePassesOf r passes
  passes_again passes s movers idle all =
      let many = as_many passes (sym movers) in
      record {
        all = sym many ∙ all;
        each = λ i p l. (stood i p l (some i workers (omega arith))).0;
        numbers = λ i p l. (stood i p l (some i workers (omega arith))).1;
        idle = idle;
      }
    where
      -- some worker
      some : (i : ℕ) (ws : List Worker) → i < length ws → Worker
      some i [] low = absurd (omega arith)
      some i (w ∷ ws) low = w

      stood : (i : ℕ) (p : RacedPass) → i < length passes → Worker → IsPassOf r (get_or passes i p) × ((get_or passes i p).view.number ≡ i)
      stood i p l w =
          let n = as_many passes (sym movers) in
          let e : (get_or workers i w).mover ≡ standing_of (get_or passes i p) = standing_at passes (sym movers) i w p l in
          let f = s i w (omega arith) in (
            record {
              same_table = sym (ap (λ (x : Standing). x.table) e) ∙ f.belongs.same_table;
              same_terms = sym (ap (λ (x : Standing). x.terms) e) ∙ f.belongs.same_terms;
            },
            sym (ap (λ (x : Standing). x.number) e) ∙ f.number,
          )

-- what was written into a slice of a whole vector
pub written_back : {A : Type 0} (xs ys : List A) (n : ℕ) → length ys ≡ length xs → n ≡ length xs → take n (ys ++ drop (length ys) xs) ≡ ys
written_back xs ys n same whole =
    ap (λ zs. take n (ys ++ zs)) (drop_all (length ys) xs (omega arith)) ∙ ap (take n) (append-nil ys) ∙ take_all n ys (omega arith)

-- memory for as many blocks as were asked for
pub kept_memory : (k n : ℕ) (m : Memory) → n ≡ k → All (λ d. d.blocks ≡ n) m.desks.items → All (IsBelow k) m.openings.all.items → IsMemoryFor k m
kept_memory k n m e desks below = record { desks = subst (λ b. All (λ d. d.blocks ≡ b) m.desks.items) e desks; openings = below }
