use Rattle.std.proofs.Common.{◌≡◌, ◌≤◌, length, take, drop, ◌+◌, ◌-◌, arith, sym, ap, ◌∙◌, length-append, length-drop, drop_of_length-le}
use Rattle.hg_io.proofs.SliceLemmas.{length-range, moved_front}
use Rattle.hg_io.proofs.mem_source.MemSourceSource.take.Goals as goal

pub returns-clause-bytes : goal.returns-clause-bytes
returns-clause-bytes c =
    let at = c.self.inside.at in
    let n = c.min-count.result in
    let all = c.self.inside.bytes.items in
    let piece = c.copy_from_slice.new.self in
    let other = c.args.buf.now in
    let within : at + n ≤ length all = omega (arith, c.self.invariant.0, c.min-count.ensures, c.min.ensures, c.len.ensures) in
    let is : piece ≡ take (at + n - at) (drop at all) =
    c.copy_from_slice.ensures.after ∙ ap (λ l. take (at + n - at) (drop at l)) c.deref-2.ensures.value in
    let left = sym (ap (λ s. s.left) c.self.view_is) in (
      left ∙ moved_front all piece other at n within is,
      λ none some. drop_of_length-le all (omega (
        arith,
        none,
        some,
        c.self.invariant,
        c.min-count.ensures,
        c.min.ensures,
        c.len.ensures,
        length-append piece (drop n other),
        length-drop n other,
        length-range all piece at n within is,
      )),
    )
