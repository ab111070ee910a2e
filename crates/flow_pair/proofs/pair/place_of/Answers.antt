use Rattle.std.proofs.Common.{inl, inr, sym, arith, Ok, Err}
use Rattle.std.proofs.lemmas.List.Sorted.{searched}
use Rattle.std.proofs.lemmas.Bool.{cases_lt}
use Rattle.flow_pair.proofs.RegionLaws.{rising-le, position-here, position-none}
use Rattle.flow_pair.proofs.pair.place_of.Goals as goal

pub returns-in-Ok : goal.returns-in-Ok
returns-in-Ok c =
    let xs = c.args.list.now in
    let found = searched xs c.args.v (Ok c.in-Ok.place) c.in-Ok.ensures.position (λ i j l m. rising-le xs c.requires i j l m) in
    sym (position-here xs c.args.v c.in-Ok.place c.requires found.0 found.1)

pub returns-in-Err : goal.returns-in-Err
returns-in-Err c =
    let xs = c.args.list.now in
    let absent = searched xs c.args.v (Err c.in-Err.field-0) c.in-Err.ensures.position (λ i j l m. rising-le xs c.requires i j l m) in
    sym (position-none xs c.args.v (λ i l e. elim (cases_lt i c.in-Err.field-0) [
      | inl m ↦ (let a = absent.1 i m in omega arith)
      | inr m ↦
          (let a = absent.2 i m l in omega arith)
    ]))
