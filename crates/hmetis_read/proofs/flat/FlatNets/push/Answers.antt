-- One net more at the end of the arrays.
use Rattle.std.proofs.Common.{◌≡◌, ◌+◌, ◌++◌, [], ◌∷◌, length, ap, ◌∙◌, arith}
use Rattle.std.proofs.lemmas.List.{get_or_append_left}
use Rattle.hg_base.proofs.AppendLaws.{all_pins}
use Rattle.hg_base.proofs.PushLaws.{nets_at_push, IsLaidOut_push}
use Rattle.hmetis_read.proofs.flat.FlatNets.push.Goals as goal

pub overflow_cast-len : goal.overflow_cast-len
overflow_cast-len c =
    let pins = c.in_ok-extend_from_slice.ensures.len in
    let before = all_pins c.self.inside.starts.items c.self.inside.weights.items c.self.inside.pins.items c.self.invariant in
    let bound = rw (← c.self.view_is) at c.requires in
    omega arith

pub invariant_of-self-2 : goal.invariant_of-self-2
invariant_of-self-2 c =
    let h = c.self.inside in
    let more = c.args.pins.now in
    let starts = c.in_ok-push.ensures.items ∙ ap (λ xs. xs ++ c.len.result ∷ []) c.in_ok-reserve-2.ensures.items in
    let weights = c.in_ok-push-2.ensures.items ∙ ap (λ xs. xs ++ c.args.weight ∷ []) c.in_ok-reserve.ensures.items in
    let pins = c.in_ok-extend_from_slice.ensures.items in
    let end : c.len.result ≡ length h.pins.items + length more = (let l = c.in_ok-extend_from_slice.ensures.len in omega arith) in
    let laid = c.self.invariant.laid_out in
    let ends = laid.ends in
    rw (starts, weights, pins) (record {
      laid_out = IsLaidOut_push h.starts.items h.weights.items h.pins.items more c.args.weight c.len.result laid end;
      first = get_or_append_left h.starts.items (c.len.result ∷ []) 0 0 (omega arith) ∙ c.self.invariant.first;
    })

pub returns-clause-ok : goal.returns-clause-ok
returns-clause-ok c =
    let h = c.self.inside in
    let more = c.args.pins.now in
    let starts = c.in_ok-push.ensures.items ∙ ap (λ xs. xs ++ c.len.result ∷ []) c.in_ok-reserve-2.ensures.items in
    let weights = c.in_ok-push-2.ensures.items ∙ ap (λ xs. xs ++ c.args.weight ∷ []) c.in_ok-reserve.ensures.items in
    let pins = c.in_ok-extend_from_slice.ensures.items in
    let end : c.len.result ≡ length h.pins.items + length more = (let l = c.in_ok-extend_from_slice.ensures.len in omega arith) in
    let nets = nets_at_push h.starts.items h.weights.items h.pins.items more c.args.weight c.len.result c.self.invariant.laid_out end in
    rw (← c.self.view_is, starts, weights, pins, nets)
