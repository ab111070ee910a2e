use Rattle.std.proofs.Common.{◌≡◌, ℕ, List, [], ◌∷◌, length, codes}
use Rattle.round_log.specs.declared.record.LoggedRound.{LoggedRound}
use Rattle.trace_text.specs.Fields.{fields_text}
use Rattle.hg_io.proofs.PenLemmas.{wrote, cut, exit, spelt}
use Rattle.trace_text.proofs.rounds.put_flow_round.Goals as goal

abbrev head : ℕ → ℕ → ℕ → ℕ → LoggedRound → List ℕ
head level first second region r = fields_text (
    (codes "round ", level) ∷ (codes " flow ", first) ∷ (codes " ", second) ∷ (codes " region ", region) ∷ (codes " value ", r.value) ∷
    (codes " before ", r.before) ∷ (codes " after ", r.after) ∷ [])

head-same : (level level' first first' second second' region region' : ℕ) (r : LoggedRound) → level ≡ level' → first ≡ first' → second ≡ second' →
    region ≡ region' → head level first second region r ≡ head level' first' second' region' r
head-same level level' first first' second second' region region' r a b d e = cc

pub returns-in_err-put_fields-clause-bytes : goal.returns-in_err-put_fields-clause-bytes
returns-in_err-put_fields-clause-bytes g c =
    let r = c.args.round.now in
    exit c.from_residual.result c.from_residual.ensures.0 (cut (codes "\n")
    (spelt (head-same c.from.result r.level c.from-2.result r.first c.from-3.result r.second c.len.result (length r.region) r
    c.from.ensures c.from-2.ensures c.from-3.ensures c.len.ensures) c.in_err-put_fields.ensures.bytes))

pub returns-clause-bytes : goal.returns-clause-bytes
returns-clause-bytes g c =
    let r = c.args.round.now in
    wrote
    (spelt (head-same c.from.result r.level c.from-2.result r.first c.from-3.result r.second c.len.result (length r.region) r
    c.from.ensures c.from-2.ensures c.from-3.ensures c.len.ensures) c.in_ok-put_fields.ensures.bytes)
    c.write.ensures.bytes
