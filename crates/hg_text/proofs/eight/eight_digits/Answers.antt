use Rattle.std.proofs.Common.{◌≡◌, ℕ, List, length, get_or, ◌<◌, sym, ap, ◌∙◌, arith, bit_xor}
use Rattle.std.specs.Int.{w64, from_le_bytes}
use Rattle.std.proofs.lemmas.List.{take_all}
use Rattle.core.specs.Dec2flt.Digits.{IsEightBytes}
use Rattle.core.proofs.dec2flt.Eight.{lanes_are, all_digits, first_other, shifted_is, word_at, bytes_of}
use lib.Bits.{xor_lt}
use lib.Lanes.{number_l}
use Rattle.hg_text.proofs.eight.eight_digits.Goals as goal

word_is : (xs : List ℕ) → length xs ≡ 8 → from_le_bytes w64 xs ≡ number_l 256 xs
word_is xs e = omega (arith, word_at xs 0 (omega arith)) ∙ ap (number_l 256) (take_all 8 xs (omega arith))

eight_bytes : (xs : List ℕ) → length xs ≡ 8 → ((k : ℕ) → get_or xs k 0 < 256) → IsEightBytes xs
eight_bytes xs e fits = (e, bytes_of xs fits)

pub returns-then-others-eq0-clause-count : goal.returns-then-others-eq0-clause-count
returns-then-others-eq0-clause-count c =
    let xs : List ℕ = c.args.bytes.now in
    let eight : IsEightBytes xs = eight_bytes xs c.told-bytes c.fits-bytes in
    let is : c.from_le_bytes-lanes.result ≡ number_l 256 xs = c.from_le_bytes-lanes.ensures ∙ word_is xs c.told-bytes in
    sym (all_digits xs _ eight is _ c.flags_from_ten-others.ensures c.if-others-eq0.true)

pub returns-then-others-eq0-clause-value : goal.returns-then-others-eq0-clause-value
returns-then-others-eq0-clause-value c =
    let xs : List ℕ = c.args.bytes.now in
    let eight : IsEightBytes xs = eight_bytes xs c.told-bytes c.fits-bytes in
    let is : c.from_le_bytes-lanes.result ≡ number_l 256 xs = c.from_le_bytes-lanes.ensures ∙ word_is xs c.told-bytes in
    let count = all_digits xs _ eight is _ c.flags_from_ten-others.ensures c.if-others-eq0.true in
    let lanes = lanes_are xs _ eight is in
    let small = xor_lt 64 c.from_le_bytes-lanes.result 0x3030_3030_3030_3030 c.from_le_bytes-lanes.type_inv (omega arith) in
    let s = shifted_is xs 8 (bit_xor c.from_le_bytes-lanes.result 0x3030_3030_3030_3030) eight (omega arith) (omega arith) (omega arith) in
    c.value_of_eight.ensures s.0 s.1 s.2 ∙ s.3

pub returns-clause-count : goal.returns-clause-count
returns-clause-count c =
    let xs : List ℕ = c.args.bytes.now in
    let eight : IsEightBytes xs = eight_bytes xs c.told-bytes c.fits-bytes in
    let is : c.from_le_bytes-lanes.result ≡ number_l 256 xs = c.from_le_bytes-lanes.ensures ∙ word_is xs c.told-bytes in
    sym (first_other xs _ eight is _ c.flags_from_ten-others.ensures (omega (arith, c.if-others-eq0.false))).0

pub returns-clause-value : goal.returns-clause-value
returns-clause-value c =
    let xs : List ℕ = c.args.bytes.now in
    let eight : IsEightBytes xs = eight_bytes xs c.told-bytes c.fits-bytes in
    let is : c.from_le_bytes-lanes.result ≡ number_l 256 xs = c.from_le_bytes-lanes.ensures ∙ word_is xs c.told-bytes in
    let first = first_other xs _ eight is _ c.flags_from_ten-others.ensures (omega (arith, c.if-others-eq0.false)) in
    let s = shifted_is xs _ c.keep_first.result eight (omega arith) (omega arith) (c.keep_first.ensures ∙ rw (lanes_are xs _ eight is)) in
    c.value_of_eight-2.ensures s.0 s.1 s.2 ∙ s.3
