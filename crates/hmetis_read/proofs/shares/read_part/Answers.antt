-- One more net, and all of them.
use Rattle.std.proofs.Common.{◌≡◌, ◌≤◌, ℕ, List, [], ◌∷◌, ◌++◌, length, map, sym, ◌∙◌, ap, subst, All, arith}
use Rattle.std.specs.Ordering.{nat_cmp}
use Rattle.std.proofs.lemmas.List.{length_push}
use Rattle.hg_defs.specs.Hypergraph.{Net, IsNet}
use Rattle.hg_defs.specs.Sorting.{set_of}
use Rattle.hg_defs.specs.Sums.{total}
use Rattle.hg_defs.proofs.SumLaws.{total_push}
use Rattle.hg_defs.proofs.SortLaws.{length-set_of-le}
use Rattle.hg_text.specs.Kept.{Line}
use Rattle.hmetis_read.specs.Graph.{each}
use Rattle.hmetis_read.specs.Shares.{net_at, pins_spelt}
use Rattle.hmetis_read.specs.declared.header.Shape.{Shape}
use Rattle.hmetis_read.proofs.Each.{with_front}
use Rattle.hmetis_read.proofs.ShareLaws.{net_more, sound_more, fields_of}
use Rattle.hmetis_read.proofs.shares.read_part.Goals as goal

pub push-requires : goal.push-requires
push-requires c =
    let pins : List ℕ = c.read_net.new.pins.items in
    let fewer : length (set_of nat_cmp pins) ≤ length pins = length-set_of-le nat_cmp pins in
    let size = ap length (c.as_slice.ensures.value ∙ c.sort_set.ensures) in
    omega (arith, c.loop-line.invariant.pins, c.in_ok-weight.ensures.limit)

pub loop-line-preserved : goal.loop-line-preserved
loop-line-preserved c =
    let shape : Shape = c.args.shape.now in
    let line : Line = c.in-Some.line in
    let kept : List Line = c.loop-line.lines.kept in
    let later : List Line = c.next_kept.new.self.kept in
    let first : kept ≡ line ∷ later = c.in-Some.ensures.kept in
    let pins : List ℕ = c.read_net.new.pins.items in
    let nets : List Net = c.loop-line.nets in
    let before : ℕ = c.loop-line.before in
    let weight : ℕ = c.in_ok-weight.weight in
    let net : Net = record { weight = weight; pins = set_of nat_cmp pins } in
    let set : c.as_slice.result.now ≡ set_of nat_cmp pins = c.as_slice.ensures.value ∙ c.sort_set.ensures in
    let pushed : c.push.new.self ≡ nets ++ net ∷ [] =
    c.in_ok-push.ensures.ok ∙ ap (λ (xs : List ℕ). nets ++ record { weight = weight; pins = xs } ∷ []) set in
    let size : c.len-in-Some.result ≡ length pins = omega (arith, c.len-in-Some.ensures) in
    let fewer : length (set_of nat_cmp pins) ≤ length pins = length-set_of-le nat_cmp pins in
    let limit = c.in_ok-weight.ensures.limit in
    let count = c.in_ok-weight.ensures.count in
    record {
      read = ap (λ (es : List Net). with_front es (each (net_at shape) (map fields_of later))) pushed
          ∙ net_more shape nets line kept later before net first (omega arith) c.in_ok-weight.ensures.net
          ∙ c.loop-line.invariant.read;
      spelt = omega (arith, ap (λ (ls : List Line). pins_spelt shape (map fields_of ls)) first, c.loop-line.invariant.spelt);
      count = omega (arith, ap length pushed, length_push nets net, c.loop-line.invariant.count);
      pins = omega (arith, ap (total (λ e. length e.pins)) pushed, total_push (λ e. length e.pins) nets net);
      limit = omega arith;
      sound = subst (λ (es : List Net). All (IsNet shape.vertices) es) (sym pushed)
          (sound_more shape.vertices weight nets pins c.loop-line.invariant.sound c.in_ok-weight.ensures.vertices);
    }
