use Rattle.std.proofs.Common.{◌≡◌, ℕ, List, length, All, sym, ap, ◌∙◌, subst, arith}
use Rattle.std.proofs.lemmas.List.{length-map, get_or-map}
use Rattle.hg_defs.specs.declared.moves.Move.{Move}
use Rattle.hg_defs.specs.Sums.{total_z}
use Rattle.move_table.specs.declared.grant.Done.{Done}
use Rattle.move_table.specs.Closing.{IsKeptPass}
use Rattle.move_table.proofs.pass.Pass.done.Goals as goal

pub returns-clause-kept : goal.returns-clause-kept
returns-clause-kept c =
    let k = c.self.invariant in
    let done = c.self.inside.done.items in
    let view = c.self.inside.seat.me.0 in
    let n = length-map done (λ (d : Done). d.number) in
    let m = length-map done (λ (d : Done). d.action) in
    subst IsKeptPass c.self.view_is (record {
      numbered = ap (λ (xs : List ℕ). length xs) k.numbers ∙ n ∙ sym m ∙ sym (ap (λ (xs : List Move). length xs) k.moves);
      gain = k.all ∙ k.booked ∙ ap (total_z (λ (x : Move). x.booked)) (sym k.moves);
      own = subst (All (λ (x : Move). x.worker ≡ view.number)) (sym k.moves) (λ i d l.
          let z : Done = record { number = 0; action = d } in
          ap (λ (x : Move). x.worker) (get_or-map (λ (x : Done). x.action) done i z d (omega arith)) ∙ k.own i z (omega arith) ∙ sym k.number);
    })
