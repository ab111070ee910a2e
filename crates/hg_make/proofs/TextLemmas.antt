-- The text of a hypergraph, number by number and line by line.
use Rattle.std.proofs.Common.{◌≡◌, ℕ, ◌+◌, ◌<◌, Bool, true, List, [], ◌∷◌, ◌++◌, length, map, drop, get_or}
use Rattle.std.proofs.Common.{sym, ap, ap₂, ◌∙◌, append_assoc, ◌-◌, length-drop}
use Rattle.std.proofs.lemmas.List.{at_drop_more, length-map}
use Rattle.std.proofs.lemmas.Grind.{flat_map-append}
use Rattle.std.specs.List.{flat_map}
use Rattle.std.specs.Fmt.{decimal}
use Rattle.hg_defs.specs.Hypergraph.{Net}
use Rattle.part_text.specs.NumberLines.{separator, numbers_line}
use Rattle.hg_make.specs.Text.{net_numbers}

-- one more piece of a text
pub one_more : {whole rest : List ℕ} (done piece later : List ℕ) → whole ≡ done ++ rest → rest ≡ piece ++ later → (done ++ piece) ++ later ≡ whole
one_more done piece later is more =
    append_assoc done piece later ∙ ap (λ l. done ++ l) (sym more) ∙ sym is

-- a number and what stands behind it
pub numbers_line-cons : (n : ℕ) (ns : List ℕ) → numbers_line (n ∷ ns) ≡ (decimal n ++ separator ns ∷ []) ++ numbers_line ns
numbers_line-cons n ns = sym (append_assoc (decimal n) (separator ns ∷ []) (numbers_line ns))

pub numbers_line-next : (ns : List ℕ) (i : ℕ) → i < length ns → numbers_line (drop i ns) ≡ (decimal (get_or ns i 0) ++ separator (drop (i + 1) ns) ∷ []) ++
    numbers_line (drop (i + 1) ns)
numbers_line-next ns i h = at_drop_more numbers_line ns i 0 h ∙ numbers_line-cons (get_or ns i 0) (drop (i + 1) ns)

-- the numbers of the pins from place i on
abbrev pub numbers_from : List ℕ → ℕ → List ℕ
numbers_from pins i = map (λ v. v + 1) (drop i pins)

pub length-numbers_from : (pins : List ℕ) (i : ℕ) → length (numbers_from pins i) ≡ length pins - i
length-numbers_from pins i = length-map (drop i pins) (λ v. v + 1) ∙ length-drop i pins

pub pins_line-next : (pins : List ℕ) (i : ℕ) → i < length pins → numbers_line (numbers_from pins i) ≡ (decimal (get_or pins i 0 + 1) ++ separator
    (numbers_from pins (i + 1)) ∷ []) ++ numbers_line (numbers_from pins (i + 1))
pins_line-next pins i h =
    at_drop_more (λ vs. numbers_line (map (λ v. v + 1) vs)) pins i 0 h ∙ numbers_line-cons (get_or pins i 0 + 1) (numbers_from pins (i + 1))

-- the lines of a list of nets, or of weights, from place i on
pub nets_lines-next : (weighted : Bool) (nets : List Net) (e : ℕ) (d : Net) → e < length nets →
    flat_map numbers_line (map (net_numbers weighted) (drop e nets)) ≡ numbers_line (net_numbers weighted (get_or nets e d)) ++ flat_map numbers_line
    (map (net_numbers weighted) (drop (e + 1) nets))
nets_lines-next weighted nets e d h = at_drop_more (λ es. flat_map numbers_line (map (net_numbers weighted) es)) nets e d h

pub weights_lines-next : (weights : List ℕ) (v : ℕ) → v < length weights → flat_map numbers_line (map (λ w. w ∷ []) (drop v weights)) ≡
    (decimal (get_or weights v 0) ++ 10 ∷ []) ++ flat_map numbers_line (map (λ w. w ∷ []) (drop (v + 1) weights))
weights_lines-next weights v h = at_drop_more (λ ws. flat_map numbers_line (map (λ w. w ∷ []) ws)) weights v 0 h

-- the header, the nets and the weights
pub lines-parts : (header : List ℕ) (nets weights : List (List ℕ)) → (numbers_line header ++ flat_map numbers_line nets) ++ flat_map numbers_line weights ≡
    flat_map numbers_line (header ∷ nets ++ weights)
lines-parts header nets weights =
    append_assoc (numbers_line header) (flat_map numbers_line nets) (flat_map numbers_line weights) ∙ ap (λ l. numbers_line header ++ l)
    (sym (flat_map-append numbers_line nets weights))

-- a net with its weight
pub net_line-weighted : (weighted : Bool) (weight : ℕ) (pins : List ℕ) → weighted ≡ true → (decimal weight ++ separator (numbers_from pins 0) ∷ []) ++
    numbers_line (numbers_from pins 0) ≡ numbers_line (net_numbers weighted (record { weight = weight; pins = pins }))
net_line-weighted weighted weight pins is =
    sym (ap (λ (w : Bool). numbers_line (net_numbers w (record { weight = weight; pins = pins }))) is ∙ numbers_line-cons weight (numbers_from pins 0))

-- a net that was read by its parts
pub net_written : (weighted : Bool) (e : Net) (weight : ℕ) (pins : List ℕ) → weight ≡ e.weight → pins ≡ e.pins →
    numbers_line (net_numbers weighted (record { weight = weight; pins = pins })) ≡ numbers_line (net_numbers weighted e)
net_written weighted e weight pins same_weight same_pins =
    ap₂ (λ w vs. numbers_line (net_numbers weighted (record { weight = w; pins = vs }))) same_weight same_pins
