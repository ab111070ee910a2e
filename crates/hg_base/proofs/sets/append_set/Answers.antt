-- The tail becomes the set of what was appended, or is that set already.
use Rattle.std.proofs.Common.{◌∙◌, ap, ◌++◌, arith, nat_cmp, ◌≡◌, refl, length, ◌≤◌, ◌+◌, sym}
use Rattle.hg_defs.specs.Sorting.{set_of}
use Rattle.hg_defs.proofs.SortLaws.{set_of-increasing}
use Rattle.hg_base.proofs.SetLaws.{kept_tail, tail_is}
use Rattle.hg_base.proofs.sets.append_set.Goals as goal

pub returns-then-not-is_rising-clause-ok : goal.returns-then-not-is_rising-clause-ok
returns-then-not-is_rising-clause-ok c =
    let old = c.args.list.now.items in
    let more = c.args.numbers.now in
    let whole = c.deref_mut.result.now in
    let all : whole ≡ old ++ more = c.deref_mut.ensures.value ∙ c.in_ok-extend_from_slice.ensures.items in
    let at : c.len-start.result ≡ length old = omega arith in
    let tail = tail_is whole old more c.len-start.result all at in
    let short : c.sort_set-count.result ≤ length c.sort_set-count.new.numbers = omega arith in
    let fits : c.len-start.result + c.sort_set-count.result ≤ c.extend_from_slice.new.self.len =
    (let l = ap length tail in let n = c.in_ok-extend_from_slice.ensures.len in omega arith) in
    c.truncate.ensures.items
    ∙ kept_tail whole old more c.len-start.result all at c.sort_set-count.new.numbers _ _ c.sort_set-count.result _ short fits
    ∙ ap (λ xs. old ++ xs) (c.sort_set-count.ensures.set ∙ ap (set_of nat_cmp) tail)

pub returns-else-not-is_rising-clause-ok : goal.returns-else-not-is_rising-clause-ok
returns-else-not-is_rising-clause-ok c =
    c.in_ok-extend_from_slice.ensures.items
    ∙ ap (λ xs. c.args.list.now.items ++ xs) (sym (set_of-increasing c.args.numbers.now (c.if-not-is_rising.ensures.0 refl)))
