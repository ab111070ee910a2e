use Rattle.std.proofs.Common.{rules, ◌≡◌, ℕ, ◌+◌, ◌*◌, ◌/◌, ◌<◌, subst, ap, sym, ◌∙◌, arith}
use Rattle.std.proofs.lemmas.Nat.{div-mul-add, mod-mul-add}
use Rattle.hg_base.specs.Packed.{IsWidth, fields_of, field}
use Rattle.pin_plain.specs.Counts.{net_bits}
use Rattle.move_core.specs.declared.events.Event.TheVariants.{Peek}
use Rattle.move_core.specs.declared.events.Word.TheVariants as word
use Rattle.move_table.specs.Places.{counts_place}
use Rattle.move_table.specs.Standing.{terms_setup}
use Rattle.move_table.specs.Seen.{IsCountRead, AreCountsRead}
use Rattle.move_table.specs.Calls.{RacedPass}
use Rattle.move_table.proofs.PlaceLaws.{Exists, first_word}
use Rattle.move_table.proofs.ReadyLaws.{ready}
use Rattle.move_table.proofs.pass.Pass.peek_counts.Goals as goal

pub first_block-b-requires-clause-few : goal.first_block-b-requires-clause-few
first_block-b-requires-clause-few c =
    let k = c.shared-words.ensures.terms.parted.few in
    let same = ap (λ b. c.args.index * fields_of b) c.net-net.ensures.bits in
    let l = c.requires.index in
    omega arith

pub load-requires-clause-ready : goal.load-requires-clause-ready
load-requires-clause-ready c =
    let t = c.shared-words.result.now.key in
    let s = terms_setup c.args.round.now.terms in
    let b = c.first_block-b.ensures in
    let bits = c.net-net.ensures.bits in
    let at : counts_place s c.args.e c.first_block-b.result ≡ c.net-net.result.start + 1 + c.args.index =
    (let x = ap (λ (z : ℕ). z / fields_of (net_bits c.args.round.now.terms.part.hyper c.args.e)) (b ∙ ap (λ (z : ℕ). c.args.index * fields_of z) bits) in
    let y = first_word (net_bits c.args.round.now.terms.part.hyper c.args.e) c.args.index (subst IsWidth bits c.net-net.ensures.width) in
    let z = c.net-net.ensures.start in omega arith) in
    let below : c.first_block-b.result < c.args.round.now.terms.part.k = (let x = ap (λ (z : ℕ). c.args.index * fields_of z) bits in
    let l = c.requires.index in omega arith) in
    ready c.shared-words.result.now.table_id c.shared-words.result.now.key c.self.inside.seat.me.0
    (Peek c.self.inside.number (word.Count c.args.e c.first_block-b.result)) (c.net-net.result.start + 1 + c.args.index) (search rules) (search rules)
    (search rules) (search rules) (search rules) (subst (λ z. Exists (terms_setup z) (word.Count c.args.e c.first_block-b.result))
    (sym c.shared-words.ensures.key) (c.requires.net, below))
    (subst (λ z. c.net-net.result.start + 1 + c.args.index ≡ counts_place (terms_setup z) c.args.e c.first_block-b.result) (sym c.shared-words.ensures.key)
    (sym at))

pub returns-clause-read : goal.returns-clause-read
returns-clause-read c = λ j l m.
    let s = terms_setup c.args.round.now.terms in
    let a = c.args.self.now.view.account in
    let bits = net_bits c.args.round.now.terms.part.hyper c.args.e in
    let place : ℕ = c.net-net.result.start + 1 + c.args.index in
    let told : AreCountsRead s a place c.load.result =
    subst (λ z. AreCountsRead (terms_setup z) a place c.load.result) c.requires.belongs.same_terms
    (subst (λ (p : RacedPass). AreCountsRead (terms_setup p.view.terms) p.view.account place c.load.result) c.self.view_is c.load.ensures.counts) in
    let b : ℕ = c.args.index * fields_of bits + j in
    let q : b / fields_of bits ≡ c.args.index = div-mul-add c.args.index (fields_of bits) j l in
    let start = c.net-net.ensures.start in
    subst (λ x. IsCountRead s a c.args.e b (field c.load.result bits x)) (mod-mul-add c.args.index (fields_of bits) j l)
    (told c.args.e b c.requires.net m (omega arith))
