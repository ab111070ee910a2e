use Rattle.std.proofs.Common.{◌≡◌, ◌+◌, ◌*◌, ℕ, subst, arith}
use Rattle.hg_defs.specs.Sums.{sum_below}
use Rattle.hg_defs.specs.Hypergraph.{vertex_count, net_count}
use Rattle.hg_defs.proofs.SumLaws.{sum_below-add, sum_below-constant}
use Rattle.pin_plain.specs.Counts.{net_words}
use Rattle.move_table.specs.Calls.{RacedRound}
use Rattle.move_table.specs.declared.view.Terms.{Terms}
use Rattle.move_table.specs.Places.{word_count}
use Rattle.move_table.specs.Standing.{terms_setup}
use Rattle.move_table.proofs.round.Round.words.Goals as goal

words_told : (t : Terms) (n : ℕ) → n ≡ word_count (terms_setup t) → n ≡ 2 * vertex_count t.part.hyper + t.part.k + 2 + net_count t.part.hyper + sum_below
    (net_words t.part.hyper t.part.k) (net_count t.part.hyper)
words_told t n e =
    let s = sum_below-add (λ e. 1) (net_words t.part.hyper t.part.k) (net_count t.part.hyper) in
    let o = sum_below-constant 1 (net_count t.part.hyper) in
    omega arith

pub returns : goal.returns
returns c =
    let P : RacedRound → Type 0 = λ r. c.word_count.result ≡ 2 * vertex_count r.terms.part.hyper + r.terms.part.k + 2 + net_count r.terms.part.hyper +
    sum_below (net_words r.terms.part.hyper r.terms.part.k) (net_count r.terms.part.hyper) in
    let w = c.self.invariant.wide in
    subst P c.self.view_is (words_told c.self.inside.terms c.word_count.result (omega arith))
