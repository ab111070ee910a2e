-- Each key of the other set is put into the first one, in turn.
use Rattle.std.proofs.Common.{◌∙◌, ap, sym, nat_cmp}
use Rattle.std.specs.BTreeSet.{insert_key}
use Rattle.move_core.proofs.HoldLaws.{all_inserted_push}
use Rattle.move_core.proofs.pass.Pass.joined.Goals as goal

pub loop-vertex-preserved : goal.loop-vertex-preserved
loop-vertex-preserved c =
    c.in_ok-insert.ensures.keys
    ∙ ap (λ xs. insert_key nat_cmp xs c.in-Some.vertex.now) c.loop-vertex.invariant
    ∙ sym (all_inserted_push (λ x. x.now) c.args.self.now.held c.loop-vertex.yielded c.in-Some.vertex)
