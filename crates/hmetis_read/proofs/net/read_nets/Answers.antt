use Rattle.std.proofs.Common.{◌≡◌, ◌+◌, ◌-◌, ◌*◌, ◌^◌, ◌<◌, ◌≤◌, ◌⊎◌, ℕ, List, [], ◌∷◌, ◌++◌, length, take, drop, Err, sym, ◌∙◌, ap, arith, inl, inr}
use Rattle.std.specs.Ordering.{nat_cmp}
use Rattle.std.proofs.lemmas.List.{length_push}
use Rattle.std.proofs.lemmas.Result.{err_from_is_err_and}
use Rattle.hg_defs.specs.Hypergraph.{Hyper, Net}
use Rattle.hg_defs.specs.Sorting.{set_of}
use Rattle.hg_defs.specs.Sums.{total}
use Rattle.hg_defs.proofs.SumLaws.{total_push}
use Rattle.hg_defs.proofs.SortLaws.{length-set_of-le}
use Rattle.hg_text.specs.Kept.{Line}
use Rattle.hmetis_read.specs.Graph.{each, net_in, nets_in, first_in, pin_numbers, with_pins_before}
use Rattle.hmetis_read.specs.declared.fault.GraphFault.TheVariants.{NoMemory}
use Rattle.hmetis_read.specs.declared.header.Shape.{Shape}
use Rattle.hmetis_read.proofs.Each.{with_front, front_ok, front_err, first_err}
use Rattle.hmetis_read.proofs.Lines.{drop_rest, drop_some, take_step, nets_twice, product_le}
use Rattle.hmetis_read.proofs.net.read_nets.Goals as goal

pub returns-in_err-weight-clause-nets : goal.returns-in_err-weight-clause-nets
returns-in_err-weight-clause-nets c =
    let shape : Shape = c.args.shape.now in
    let i : ℕ = c.loop.counter in
    let n : ℕ = shape.nets in
    let later : List Line = c.next_kept.new.self.kept in
    let now : take (n - i) c.loop.lines.kept ≡ c.in-Some.line ∷ take (n - (i + 1)) later =
    ap (take (n - i)) c.in-Some.ensures.kept ∙ take_step n i c.in-Some.line later (omega arith) in
    let p = err_from_is_err_and c.from_residual.result c.from_residual.ensures.1 in
    let cause : (c.in_err-weight.field-0.0 ≡ NoMemory) ⊎ (first_in n (nets_in shape) c.args.lines.now ≡ Err c.in_err-weight.field-0.0) =
    elim c.in_err-weight.ensures.net [
      | inl e ↦ inl e
      | inr e ↦ inr (first_err n (nets_in shape) c.args.lines.now c.in_err-weight.field-0.0
          (sym c.loop.invariant.read
          ∙ ap (λ (ls : List Line). with_front c.loop.hyper.nets (each (net_in shape) (with_pins_before shape c.loop.before ls))) now
          ∙ front_err (net_in shape) c.loop.hyper.nets (c.loop.before, c.in-Some.line)
          (with_pins_before shape (c.loop.before + length (pin_numbers shape c.in-Some.line)) (take (n - (i + 1)) later)) c.in_err-weight.field-0.0 e))
    ] in
    rw (p.1, p.2) cause

pub loop-preserved : goal.loop-preserved
loop-preserved c =
    let shape : Shape = c.args.shape.now in
    let kept : List Line = c.args.lines.now.kept in
    let i : ℕ = c.loop.counter in
    let n : ℕ = shape.nets in
    let later : List Line = c.next_kept.new.self.kept in
    let first : drop i kept ≡ c.in-Some.line ∷ later = sym c.loop.invariant.kept ∙ c.in-Some.ensures.kept in
    let now : take (n - i) c.loop.lines.kept ≡ c.in-Some.line ∷ take (n - (i + 1)) later =
    ap (take (n - i)) c.in-Some.ensures.kept ∙ take_step n i c.in-Some.line later (omega arith) in
    let pins : List ℕ = c.read_net.new.pins.items in
    let nets : List Net = c.loop.hyper.nets in
    let before : ℕ = c.loop.before in
    let weight : ℕ = c.in_ok-weight.weight in
    let net : Net = record { weight = weight; pins = set_of nat_cmp pins } in
    let lent : c.as_slice.result.now ≡ pins = c.as_slice.ensures.value in
    let pushed : c.push_net.new.self.nets ≡ nets ++ net ∷ [] =
    ap (λ (h : Hyper). h.nets) c.in_ok-push_net.ensures.ok
    ∙ ap (λ (xs : List ℕ). nets ++ record { weight = weight; pins = set_of nat_cmp xs } ∷ []) lent in
    let count : c.len.result ≡ length (pin_numbers shape c.in-Some.line) = c.len.ensures ∙ sym c.as_slice.ensures.len ∙ ap length lent ∙
    c.in_ok-weight.ensures.count in
    let size : c.len.result ≡ length pins = count ∙ sym c.in_ok-weight.ensures.count in
    let fewer : length (set_of nat_cmp pins) ≤ length pins = length-set_of-le nat_cmp pins in
    let light : weight < 2 ^ 32 = c.in_ok-weight.ensures.weight in
    let rest : List Line = take (n - (i + 1)) later in
    record {
      read = ap (λ (es : List Net). with_front es (each (net_in shape) (with_pins_before shape (before + c.len.result) rest))) pushed
          ∙ ap (λ (k : ℕ). with_front (nets ++ net ∷ []) (each (net_in shape) (with_pins_before shape (before + k) rest))) count
          ∙ sym (front_ok (net_in shape) nets (before, c.in-Some.line) (with_pins_before shape (before + length (pin_numbers shape c.in-Some.line)) rest)
          net
          c.in_ok-weight.ensures.net)
          ∙ sym (ap (λ (ls : List Line). with_front nets (each (net_in shape) (with_pins_before shape before ls))) now)
          ∙ c.loop.invariant.read;
      kept = drop_rest kept i c.in-Some.line later first;
      some = drop_some kept i c.in-Some.line later first;
      count = c.in-Some.ensures.count ∙ c.loop.invariant.count;
      nets = ap length pushed ∙ length_push nets net ∙ omega arith;
      pins = omega (arith, ap (total (λ e. length e.pins)) pushed, total_push (λ e. length e.pins) nets net);
      limit = omega (arith, c.in_ok-weight.ensures.limit);
      net_weight = omega (arith, ap (total (λ e. e.weight)) pushed, total_push (λ e. e.weight) nets net);
      pin_weight = omega (
        arith,
        ap (total (λ e. e.weight * length e.pins)) pushed,
        total_push (λ e. e.weight * length e.pins) nets net,
        product_le weight (length (set_of nat_cmp pins)) (length pins) light fewer,
      );
      others = nets_twice c.args.hyper.now c.loop.hyper c.push_net.new.self
          (nets ++ record { weight = weight; pins = set_of nat_cmp c.as_slice.result.now } ∷
          []) c.loop.invariant.others c.in_ok-push_net.ensures.ok;
    }
