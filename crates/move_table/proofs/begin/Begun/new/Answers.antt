use Rattle.move_table.proofs.BeginLaws.{begins, is_opening}
use Rattle.move_table.proofs.begin.Begun.new.Goals as goal

pub of_words-requires : goal.of_words-requires
of_words-requires c =
    let t = c.args.terms.now in
    begins t c.words.result.now c.requires c.words.ensures.wide (is_opening t c.words.result.now c.requires c.words.ensures)
