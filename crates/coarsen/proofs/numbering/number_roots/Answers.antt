-- A root gets its number.
use Rattle.std.proofs.Common.{◌≡◌, ℕ, ◌+◌, ◌<◌, List, length, Vec, Global, set, refl, sym, ap, ◌∙◌, subst, arith}
use Rattle.coarsen.proofs.NumberLaws.{IsNumbering, numbering_root, numbering_other}
use Rattle.coarsen.proofs.numbering.number_roots.Goals as goal
use Rattle.coarsen.proofs.numbering.number_roots.Goals.{then-roots-v, else-roots-v}

pub loop-v-preserved : goal.loop-v-preserved
loop-v-preserved c =
    elim c.if-roots-v.branch [
      | then-roots-v w ↦
          subst (λ (n : ℕ). IsNumbering c.args.roots.now (c.loop-v.v + 1) n c.if-roots-v.numbers.items) (sym w.count-is)
          (subst (λ (v : Vec ℕ Global). IsNumbering c.args.roots.now (c.loop-v.v + 1) (c.loop-v.count + 1) v.items) (sym w.numbers-is)
          (numbering_root c.args.roots.now c.loop-v.numbers.items c.loop-v.v c.loop-v.count c.loop-v.invariant w.if-roots-v.true c.loop-v-test.true))
      | else-roots-v w ↦
          subst (λ (n : ℕ). IsNumbering c.args.roots.now (c.loop-v.v + 1) n c.if-roots-v.numbers.items) (sym w.count-is)
          (subst (λ (v : Vec ℕ Global). IsNumbering c.args.roots.now (c.loop-v.v + 1) c.loop-v.count v.items) (sym w.numbers-is)
          (numbering_other c.args.roots.now c.loop-v.numbers.items c.loop-v.v c.loop-v.count c.loop-v.invariant w.if-roots-v.false))
    ]
