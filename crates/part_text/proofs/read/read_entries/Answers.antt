use Rattle.std.proofs.Common.{ℕ, List, [], ◌∷◌, ◌≡◌, ◌+◌, ◌-◌, suc, length, length-append, All, sym, ap, ◌∙◌, subst, arith}
use Rattle.std.proofs.lemmas.List.Elements.{All-push}
use Rattle.part_text.specs.Entries.{IsEntry, entry_in, spelled}
use Rattle.part_text.proofs.ReadLemmas.{behind, behind-fault, behind-next}
use Rattle.part_text.proofs.read.read_entries.Goals as goal

pub returns-in-Err-clause-values : goal.returns-in-Err-clause-values
returns-in-Err-clause-values c =
    let entry = entry_in c.args.entry c.args.k in
    let one_more : c.args.n - c.lines.counter ≡ suc (c.args.n - (c.lines.counter + 1)) = omega arith in
    c.lines.invariant.spelt
    ∙ behind-fault entry c.lines.values.items _ _ c.lines.lines c.in-Some.line c.next_kept.new.self.kept c.in-Err.kind c.line-number.result one_more
    c.in-Some.ensures.kept (sym c.in-Err.ensures.value) c.line-number.ensures

pub lines-preserved : goal.lines-preserved
lines-preserved c =
    let entry = entry_in c.args.entry c.args.k in
    let rest = c.next_kept.new.self in
    let left = c.args.n - (c.lines.counter + 1) in
    let one_more : c.args.n - c.lines.counter ≡ suc left = omega arith in
    let push = c.in_ok-push-in-Ok.ensures.items in
    record {
      spelt = c.lines.invariant.spelt
          ∙ behind-next entry c.lines.values.items _ left c.lines.lines rest c.in-Some.line c.in-Ok.value one_more c.in-Some.ensures.kept
          c.in-Some.ensures.count (sym c.in-Ok.ensures.value)
          ∙ ap (λ (xs : List ℕ). behind xs (spelled entry left rest)) (sym push);
      same = c.in-Some.ensures.count ∙ c.lines.invariant.same;
      count = omega (arith, ap length push, length-append c.lines.values.items (c.in-Ok.value ∷ []), c.lines.invariant.count);
      each = subst (All (IsEntry c.args.entry c.args.k)) (sym push) (All-push (IsEntry c.args.entry c.args.k) c.lines.values.items c.in-Ok.value
          c.lines.invariant.each c.in-Ok.ensures.within);
    }
