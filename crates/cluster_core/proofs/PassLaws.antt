-- The clause on passes, and what it and the clause on marks say of a pass.
use Rattle.std.proofs.Common.{◌≡◌, ℕ, ◌<◌, inl, inr, true, false, List, length, length-set, get_or, set, sym, ap, ◌∙◌, arith, nat_cmp}
use Rattle.std.proofs.lemmas.Bool.{true≢false}
use Rattle.std.specs.BTreeSet.{insert_key}
use Rattle.hg_defs.specs.Hypergraph.{Hyper, vertex_count}
use Rattle.hg_defs.proofs.SumLaws.{weight_if-other}
use Rattle.cluster_core.specs.declared.account.Account.{Account}
use Rattle.cluster_core.specs.declared.account.Stage.{Stage}
use Rattle.cluster_core.specs.declared.account.Stage.TheVariants.{Idle, Refused, Granted}
use Rattle.cluster_core.specs.State.{Readings, times, blank}
use Rattle.cluster_core.specs.Balance.{HasMarks, HasPasses, IsHeld}
use Rattle.cluster_core.proofs.TimesLaws.{all_changed, total_at, pick, times-insert_key-le}

-- an account of a live pass
abbrev pub staged : List ℕ → List ℕ → Stage → Account
staged taken known stage = record { live = true; taken = taken; known = known; stage = stage }

pub staged_at : (a : Account) → a.live ≡ true → a ≡ staged a.taken a.known a.stage
staged_at a on = ap (λ z. record { live = z; taken = a.taken; known = a.known; stage = a.stage }) on

module _ (accounts : List Account) (i : ℕ) (a a' : Account) (l : i < length accounts) (at : get_or accounts i (blank false) ≡ a) where
  pub passes_changed : HasPasses accounts → a'.live ≡ true → IsHeld a'.stage a' → HasPasses (set accounts i a')
  passes_changed p on held = record {
    held = all_changed accounts i a a' l at (λ z. IsHeld z.stage z) p.held held;
    ended = all_changed accounts i a a' l at (λ z. z.live ≡ false → z ≡ blank false) p.ended (λ q. absurd (true≢false (sym on ∙ q)));
    made = let m = p.made in let n = length-set accounts i a' in omega arith;
  }

  -- a vertex that a pass has taken has the mark 1
  pub taken_mark : (h : Hyper) (r : Readings) → HasMarks h r accounts → (v : ℕ) → v < vertex_count h → 0 < times v a.taken → r.mark v ≡ 1
  taken_mark h r c v lv p =
      let t = total_at accounts i a a' l at (λ z. times v z.taken) in
      let e = c.taken v lv in
      elim (pick (r.mark v) 1 1 0) [ inl q ↦ q.0 | inr q ↦ let z = q.1 in absurd (omega arith) ]

  -- a vertex that nobody has taken
  pub untaken : (h : Hyper) (r : Readings) → HasMarks h r accounts → (v : ℕ) → v < vertex_count h → r.mark v ≡ 0 → times v a.taken ≡ 0
  untaken h r c v lv z =
      let t = total_at accounts i a a' l at (λ z. times v z.taken) in
      let e = c.taken v lv in
      let o = weight_if-other (r.mark v) 1 1 (λ q. omega arith) in
      omega arith

-- a pass that learns a root holds what it held
pub held_more : (taken known : List ℕ) (q : ℕ) (stage : Stage) → IsHeld stage (staged taken known stage) →
    IsHeld stage (staged taken (insert_key nat_cmp known q) stage)
held_more taken known q Idle k = tt
held_more taken known q (Refused v o) k = (k.0, let x = times-insert_key-le known q o in let y = k.1 in omega arith)
held_more taken known q (Granted v o) k = (k.0, let x = times-insert_key-le known q o in let y = k.1 in omega arith)
