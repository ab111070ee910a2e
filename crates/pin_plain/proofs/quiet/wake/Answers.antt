use Rattle.std.proofs.Common.{◌≡◌, ◌⊎◌, inl, inr, ◌∙◌, ℕ, All, Bool, List, true, false, length, get_or, slice_index, refl, sym, ap, subst, arith}
use Rattle.std.proofs.lemmas.List.{take_all}
use Rattle.hg_defs.specs.Hypergraph.{net_of}
use Rattle.hg_defs.specs.Partition.{block_of}
use Rattle.hg_defs.specs.Incidence.{is_on, is_pin}
use Rattle.hg_defs.proofs.DistinctLaws.{pins_in-le}
use Rattle.pin_plain.specs.Quiet.{stirs, stirs_net}
use Rattle.pin_plain.proofs.ScoreLaws.{told_inside, told_count, told_few}
use Rattle.pin_plain.proofs.QuietLaws.{quiet_left, still_more}
use Rattle.hg_defs.specs.Pins.{pins_in}
use Rattle.pin_plain.proofs.quiet.wake.Goals as goal
use Rattle.pin_plain.proofs.quiet.wake.Goals.{then-stirs, else-stirs}

pub loop-e-init : goal.loop-e-init
loop-e-init c = record { all = refl; left = λ w marked. (marked, λ i d l. absurd (omega arith)) }

pub count-old-requires-clause-inside : goal.count-old-requires-clause-inside
count-old-requires-clause-inside c =
    let l = c.args.lent.now in
    let whole = l.told.parted.partition in
    let long = whole.vertices in
    let vertex = c.requires.vertex in
    told_inside l.h.now l.k l.blocks.now l.starts.now l.words.now l.told (slice_index c.nets_of-e-items.result.now c.loop-e.e-index) 0
    c.bits_of-bits.result c.pins-pins.result.now (c.nets_of-e-items.ensures.below c.loop-e.e-index 0 c.loop-e-test.true) c.pins-pins.ensures.value
    c.bits_of-bits.ensures.value (block_of l.blocks.now c.args.v) (whole.blocks c.args.v 0 (omega arith))

pub count-old-requires-clause-few : goal.count-old-requires-clause-few
count-old-requires-clause-few c = let l = c.args.lent.now in told_few l.h.now l.k l.blocks.now l.starts.now l.words.now l.told

pub count-new-requires-clause-inside : goal.count-new-requires-clause-inside
count-new-requires-clause-inside c =
    let l = c.args.lent.now in
    told_inside l.h.now l.k l.blocks.now l.starts.now l.words.now l.told (slice_index c.nets_of-e-items.result.now c.loop-e.e-index) 0
    c.bits_of-bits.result c.pins-pins.result.now (c.nets_of-e-items.ensures.below c.loop-e.e-index 0 c.loop-e-test.true) c.pins-pins.ensures.value
    c.bits_of-bits.ensures.value c.args.to c.requires.block

pub count-new-requires-clause-few : goal.count-new-requires-clause-few
count-new-requires-clause-few c = let l = c.args.lent.now in told_few l.h.now l.k l.blocks.now l.starts.now l.words.now l.told

pub stirs-requires : goal.stirs-requires
stirs-requires c =
    let l = c.args.lent.now in
    let e = slice_index c.nets_of-e-items.result.now c.loop-e.e-index in
    let now =
    told_count l.h.now l.k l.blocks.now l.starts.now l.words.now l.told e 0 c.bits_of-bits.result c.pins-pins.result.now
    (c.nets_of-e-items.ensures.below c.loop-e.e-index 0 c.loop-e-test.true) c.pins-pins.ensures.value c.bits_of-bits.ensures.value c.args.to
    c.requires.block in
    let few = pins_in-le l.blocks.now (net_of l.h.now e).pins c.args.to in
    let same = ap length c.pins-pins.ensures.value in
    let read = c.count-new.ensures.value in
    omega arith

pub loop-e-preserved : goal.loop-e-preserved
loop-e-preserved c =
    let l = c.args.lent.now in
    let e = slice_index c.nets_of-e-items.result.now c.loop-e.e-index in
    let whole = l.told.parted.partition in
    let long = whole.vertices in
    let vertex = c.requires.vertex in
    let read = told_count l.h.now l.k l.blocks.now l.starts.now l.words.now l.told e 0 c.bits_of-bits.result c.pins-pins.result.now
    (c.nets_of-e-items.ensures.below c.loop-e.e-index 0 c.loop-e-test.true) c.pins-pins.ensures.value c.bits_of-bits.ensures.value in
    let old = c.count-old.ensures.value ∙ read (block_of l.blocks.now c.args.v) (whole.blocks c.args.v 0 (omega arith)) in
    let new = c.count-new.ensures.value ∙ read c.args.to c.requires.block in
    let same : c.stirs.result ≡ stirs_net l.h.now l.blocks.now c.args.v c.args.to e =
    c.stirs.ensures ∙ ap (λ n. stirs n c.count-new.result (length c.pins-pins.result.now)) old
    ∙ ap (λ n. stirs (pins_in l.blocks.now (net_of l.h.now e).pins (block_of l.blocks.now c.args.v)) n (length c.pins-pins.result.now)) new
    ∙ ap (λ (ps : List ℕ). stirs (pins_in l.blocks.now (net_of l.h.now e).pins (block_of l.blocks.now c.args.v))
    (pins_in l.blocks.now (net_of l.h.now e).pins c.args.to) (length ps)) c.pins-pins.ensures.value in
    elim c.if-stirs.branch [
      | then-stirs b ↦ record {
        all = ap length b.marks-is ∙ b.unmark.ensures.all ∙ c.loop-e.invariant.all;
        left = λ w marked.
            let was = b.unmark.ensures.left w (subst (λ (ms : List Bool). get_or ms w false ≡ true) b.marks-is marked) in
            let before = c.loop-e.invariant.left w was.0 in (
              before.0,
              still_more (λ n. (is_on l.h.now w n ≡ false) ⊎ (stirs_net l.h.now l.blocks.now c.args.v c.args.to n ≡ false)) c.nets_of-e-items.result.now
                  c.loop-e.e-index c.loop-e-test.true before.1 (inl (ap (λ (ps : List ℕ). is_pin ps w) (sym c.pins-pins.ensures.value) ∙ was.1)),
            );
      }
      | else-stirs b ↦ record {
        all = ap length b.marks-is ∙ c.loop-e.invariant.all;
        left = λ w marked.
            let before = c.loop-e.invariant.left w (subst (λ (ms : List Bool). get_or ms w false ≡ true) b.marks-is marked) in (
              before.0,
              still_more (λ n. (is_on l.h.now w n ≡ false) ⊎ (stirs_net l.h.now l.blocks.now c.args.v c.args.to n ≡ false)) c.nets_of-e-items.result.now
                  c.loop-e.e-index c.loop-e-test.true before.1 (inr (sym same ∙ b.if-stirs.false)),
            );
      }
    ]

pub returns : goal.returns
returns c =
    let l = c.args.lent.now in
    let all = take_all c.loop-e.e-index c.nets_of-e-items.result.now (omega (arith, c.loop-e-test.false)) ∙ c.nets_of-e-items.ensures.value in
    quiet_left l.h.now l.k l.blocks.now c.args.v c.args.to c.args.marks.now c.loop-e.marks l.told.parted.sound l.told.parted.partition c.requires.vertex
    c.requires.block c.requires.other c.requires.unmarked c.loop-e.invariant.all
    (λ w marked.
    let was = c.loop-e.invariant.left w marked in
    (was.0, subst (All (λ e. (is_on l.h.now w e ≡ false) ⊎ (stirs_net l.h.now l.blocks.now c.args.v c.args.to e ≡ false))) all was.1))
    c.requires.quiet
