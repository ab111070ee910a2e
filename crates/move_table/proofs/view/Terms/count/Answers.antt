use Rattle.std.proofs.Common.{arith}
use Rattle.pin_plain.proofs.CountLaws.{all_words-le}
use Rattle.move_table.proofs.BeginLaws.{count_within}
use Rattle.move_table.proofs.view.Terms.count.Goals as goal

pub overflow_add-start : goal.overflow_add-start
overflow_add-start c =
    let p = c.args.self.now.part in
    let parted = c.blocks-blocks.ensures.parted in
    let start = c.place_of_net-start.ensures.start in
    let few = all_words-le p.hyper p.k parted.some parted.few parted.bounds parted.suits in
    let within = count_within p.hyper p.k c.args.e c.args.b c.place_of_net-start.result.1 c.requires.net c.requires.block c.place_of_net-start.ensures.bits in
    omega arith

pub overflow_add-start-2 : goal.overflow_add-start-2
overflow_add-start-2 c =
    let p = c.args.self.now.part in
    let parted = c.blocks-blocks.ensures.parted in
    let start = c.place_of_net-start.ensures.start in
    let word = c.place_of-word.ensures.word in
    let few = all_words-le p.hyper p.k parted.some parted.few parted.bounds parted.suits in
    let within = count_within p.hyper p.k c.args.e c.args.b c.place_of_net-start.result.1 c.requires.net c.requires.block c.place_of_net-start.ensures.bits in
    omega arith

pub bounds-words-start : goal.bounds-words-start
bounds-words-start c =
    let p = c.args.self.now.part in
    let start = c.place_of_net-start.ensures.start in
    let word = c.place_of-word.ensures.word in
    let wide = c.words.ensures.wide in
    let within = count_within p.hyper p.k c.args.e c.args.b c.place_of_net-start.result.1 c.requires.net c.requires.block c.place_of_net-start.ensures.bits in
    omega arith
