use Rattle.std.proofs.Common.{◌≡◌, ℕ, suc, List, [], ◌∷◌, length, ap, ap₂, ◌∙◌, codes}
use Rattle.trace_text.specs.Fields.{fields_text}
use Rattle.trace_text.specs.Rounds.{refined_text, swept_text}
use Rattle.trace_text.specs.Report.{first_cost, last_cost}
use Rattle.hg_io.proofs.PenLemmas.{wrote, cut, exit, spelt}
use Rattle.trace_text.proofs.report.put_cycle.Goals as goal

abbrev head : ℕ → ℕ → ℕ → ℕ → List ℕ
head number levels before last = fields_text (
    (codes "cycle ", number) ∷ (codes " levels ", levels) ∷ (codes " before ", before) ∷ (codes " after ", last) ∷ [])

head-same : (number levels levels' before before' last last' : ℕ) → levels ≡ levels' → before ≡ before' → last ≡ last' →
    head number levels before last ≡ head number levels' before' last'
head-same number levels levels' before before' last last' a b d = cc

pub returns-in_err-put_fields-clause-bytes : goal.returns-in_err-put_fields-clause-bytes
returns-in_err-put_fields-clause-bytes g c =
    let h = c.args.h.now in
    let t = c.args.cycle.now in
    exit c.from_residual.result c.from_residual.ensures.0
    (cut (swept_text t.rounds) (cut (refined_text t.rounds) (cut (codes "\n")
    (spelt (head-same c.args.number c.level_count.result (suc (length t.maps)) c.first_cost-before.result (first_cost h t)
    c.last_cost.result (last_cost (first_cost h t) t.rounds) c.level_count.ensures c.first_cost-before.ensures
    (c.last_cost.ensures ∙ ap₂ last_cost c.first_cost-before.ensures c.slice.ensures)) c.in_err-put_fields.ensures.bytes))))

pub returns-in_err-write-clause-bytes : goal.returns-in_err-write-clause-bytes
returns-in_err-write-clause-bytes g c =
    let h = c.args.h.now in
    let t = c.args.cycle.now in
    exit c.from_residual-in_err-write.result c.from_residual-in_err-write.ensures.0
    (cut (swept_text t.rounds) (cut (refined_text t.rounds) (wrote
    (spelt (head-same c.args.number c.level_count.result (suc (length t.maps)) c.first_cost-before.result (first_cost h t)
    c.last_cost.result (last_cost (first_cost h t) t.rounds) c.level_count.ensures c.first_cost-before.ensures
    (c.last_cost.ensures ∙ ap₂ last_cost c.first_cost-before.ensures c.slice.ensures)) c.in_ok-put_fields.ensures.bytes)
    c.in_err-write.ensures.bytes)))

pub returns-in_err-put_refined-clause-bytes : goal.returns-in_err-put_refined-clause-bytes
returns-in_err-put_refined-clause-bytes g c =
    let h = c.args.h.now in
    let t = c.args.cycle.now in
    exit c.from_residual-in_err-put_refined.result c.from_residual-in_err-put_refined.ensures.0
    (cut (swept_text t.rounds) (wrote (wrote
    (spelt (head-same c.args.number c.level_count.result (suc (length t.maps)) c.first_cost-before.result (first_cost h t)
    c.last_cost.result (last_cost (first_cost h t) t.rounds) c.level_count.ensures c.first_cost-before.ensures
    (c.last_cost.ensures ∙ ap₂ last_cost c.first_cost-before.ensures c.slice.ensures)) c.in_ok-put_fields.ensures.bytes)
    c.in_ok-write.ensures.bytes)
    (spelt (ap refined_text c.slice-2.ensures) c.in_err-put_refined.ensures.bytes)))

pub returns-clause-bytes : goal.returns-clause-bytes
returns-clause-bytes g c =
    let h = c.args.h.now in
    let t = c.args.cycle.now in
    wrote (wrote (wrote
    (spelt (head-same c.args.number c.level_count.result (suc (length t.maps)) c.first_cost-before.result (first_cost h t)
    c.last_cost.result (last_cost (first_cost h t) t.rounds) c.level_count.ensures c.first_cost-before.ensures
    (c.last_cost.ensures ∙ ap₂ last_cost c.first_cost-before.ensures c.slice.ensures)) c.in_ok-put_fields.ensures.bytes)
    c.in_ok-write.ensures.bytes)
    (spelt (ap refined_text c.slice-2.ensures) c.in_ok-put_refined.ensures.bytes))
    (spelt (ap swept_text c.slice-3.ensures) c.put_swept.ensures.bytes)
