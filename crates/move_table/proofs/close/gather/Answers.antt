use Rattle.std.proofs.Common.{rules, ◌≡◌, ◌<◌, map, length, drop, get_or, ap, ◌∙◌}
use Rattle.std.specs.Int.{w64}
use Rattle.std.proofs.lemmas.Int.{to_z-of_z}
use Rattle.move_table.specs.declared.grant.Done.{Done}
use Rattle.move_table.specs.Closing.{laid}
use Rattle.move_table.proofs.GatherLaws.{gains_more, kept_more}
use Rattle.move_table.proofs.LaidLaws.{laid_more}
use Rattle.move_table.proofs.EndLaws.{written_back}
use Rattle.move_table.proofs.close.gather.Goals as goal

pub loop-pass-preserved : goal.loop-pass-preserved
loop-pass-preserved c =
    let ps = c.args.passes.now in
    let i = c.loop-pass.pass-index in
    let p = c.pass-item.result in
    let l : i < length ps = search rules in
    let at : p ≡ get_or ps i p = search rules in
    let out = c.lay_moves.new.moves in
    let wide : c.loop-pass.moves.len ≡ length out = search rules in
    let back = written_back c.loop-pass.moves.len out (drop (length out) c.loop-pass.moves.items) wide in
    let numbers = map (λ (d : Done). d.number) c.done.result.now in
    let moves = map (λ (d : Done). d.action) c.done.result.now in
    record {
      moves = laid_more c.loop-pass.moves.items _ ps i p numbers moves
          (back ∙ c.lay_moves.ensures ∙ ap (λ xs. laid xs numbers moves) c.as_mut_slice.ensures.value) c.done.ensures.numbers c.done.ensures.moves
          c.done.ensures.kept.numbered at l ∙ c.loop-pass.invariant.moves;
      gains = gains_more c.loop-pass.gains.items c.push.new.self.items ps i p c.in_ok-push.ensures.items c.loop-pass.invariant.gains
          (to_z-of_z w64 c.gain.result (search rules) ∙ c.gain.ensures) at l;
      kept = kept_more ps i p at l c.done.ensures.kept c.loop-pass.invariant.kept;
    }
