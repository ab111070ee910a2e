use Rattle.std.proofs.Common.{◌≡◌, ℕ, List, [], ◌∷◌, length, ap, codes}
use Rattle.std.specs.List.{flat_map}
use Rattle.round_log.specs.declared.record.LoggedRound.{LoggedRound}
use Rattle.trace_text.specs.Fields.{fields_text}
use Rattle.trace_text.specs.Rounds.{moves_label, gain_text}
use Rattle.hg_io.proofs.PenLemmas.{wrote, cut, exit, spelt}
use Rattle.trace_text.proofs.rounds.put_moves_round.Goals as goal

abbrev head : ℕ → List ℕ → ℕ → ℕ → LoggedRound → List ℕ
head level label moves kept r = fields_text (
    (codes "round ", level) ∷ (label, moves) ∷ (codes " kept ", kept) ∷ (codes " before ", r.before) ∷
    (codes " made ", r.made) ∷ (codes " after ", r.after) ∷ [])

head-same : (level level' : ℕ) (label label' : List ℕ) (moves moves' kept kept' : ℕ) (r : LoggedRound) → level ≡ level' → label ≡ label' → moves ≡ moves' →
    kept ≡ kept' → head level label moves kept r ≡ head level' label' moves' kept' r
head-same level level' label label' moves moves' kept kept' r a b d e = cc

pub returns-in_err-put_fields-clause-bytes : goal.returns-in_err-put_fields-clause-bytes
returns-in_err-put_fields-clause-bytes g c =
    let r = c.args.round.now in
    exit c.from_residual.result c.from_residual.ensures.0
    (cut (codes "\n") (cut (flat_map gain_text r.gains) (cut (codes " gains")
    (spelt (head-same c.from.result r.level c.moves_label.result.now (moves_label r.kind) c.len.result (length r.moves) c.from-2.result r.kept r
    c.from.ensures c.moves_label.ensures c.len.ensures c.from-2.ensures) c.in_err-put_fields.ensures.bytes))))

pub returns-in_err-write-clause-bytes : goal.returns-in_err-write-clause-bytes
returns-in_err-write-clause-bytes g c =
    let r = c.args.round.now in
    exit c.from_residual-in_err-write.result c.from_residual-in_err-write.ensures.0
    (cut (codes "\n") (cut (flat_map gain_text r.gains) (wrote
    (spelt (head-same c.from.result r.level c.moves_label.result.now (moves_label r.kind) c.len.result (length r.moves) c.from-2.result r.kept r
    c.from.ensures c.moves_label.ensures c.len.ensures c.from-2.ensures) c.in_ok-put_fields.ensures.bytes)
    c.in_err-write.ensures.bytes)))

pub returns-in_err-put_gains-clause-bytes : goal.returns-in_err-put_gains-clause-bytes
returns-in_err-put_gains-clause-bytes g c =
    let r = c.args.round.now in
    exit c.from_residual-in_err-put_gains.result c.from_residual-in_err-put_gains.ensures.0
    (cut (codes "\n") (wrote (wrote
    (spelt (head-same c.from.result r.level c.moves_label.result.now (moves_label r.kind) c.len.result (length r.moves) c.from-2.result r.kept r
    c.from.ensures c.moves_label.ensures c.len.ensures c.from-2.ensures) c.in_ok-put_fields.ensures.bytes)
    c.in_ok-write.ensures.bytes)
    (spelt (ap (flat_map gain_text) c.slice.ensures) c.in_err-put_gains.ensures.bytes)))

pub returns-clause-bytes : goal.returns-clause-bytes
returns-clause-bytes g c =
    let r = c.args.round.now in
    wrote (wrote (wrote
    (spelt (head-same c.from.result r.level c.moves_label.result.now (moves_label r.kind) c.len.result (length r.moves) c.from-2.result r.kept r
    c.from.ensures c.moves_label.ensures c.len.ensures c.from-2.ensures) c.in_ok-put_fields.ensures.bytes)
    c.in_ok-write.ensures.bytes)
    (spelt (ap (flat_map gain_text) c.slice.ensures) c.in_ok-put_gains.ensures.bytes))
    c.write-2.ensures.bytes
