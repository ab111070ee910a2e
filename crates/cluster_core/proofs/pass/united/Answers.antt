-- Each key of the other set is put into the first one, in turn.
use Rattle.std.proofs.Common.{◌∙◌, ap, sym, nat_cmp}
use Rattle.std.specs.BTreeSet.{insert_key}
use Rattle.cluster_core.proofs.HoldLaws.{all_inserted_push}
use Rattle.cluster_core.proofs.pass.united.Goals as goal

pub loop-number-preserved : goal.loop-number-preserved
loop-number-preserved c =
    c.in_ok-insert.ensures.keys
    ∙ ap (λ xs. insert_key nat_cmp xs c.in-Some.number.now) c.loop-number.invariant
    ∙ sym (all_inserted_push (λ x. x.now) c.args.these.now.keys c.loop-number.yielded c.in-Some.number)
