-- What the lines of a written hypergraph spell.
use Rattle.std.proofs.Common.{◌≡◌, ℕ, ◌+◌, ◌-◌, ◌^◌, ◌<◌, ◌≤◌, Bool, true, false, cond, ◌&&◌, List, [], ◌∷◌}
use Rattle.std.proofs.Common.{length, map, All, refl, sym, ap, ap₂, ◌∙◌, arith, lit<}
use Rattle.std.proofs.lemmas.Bool.Decides.{nat_tests}
use Rattle.std.proofs.lemmas.List.{length-map}
use Rattle.std.proofs.lemmas.List.Elements.{All-head, All-tail, All-cons, All-nil}
use Rattle.std.specs.Prelude.{Ok, Err, nat_lt, nat_le, slice_index}
use Rattle.std.specs.List.{enumerate_from}
use Rattle.std.specs.List.Sorted.{IsStrictlyIncreasing}
use Rattle.std.specs.Fmt.{decimal}
use Rattle.std.specs.Ordering.{nat_cmp}
use Rattle.hg_defs.specs.Hypergraph.{Net}
use Rattle.hg_defs.specs.Sorting.{set_of}
use Rattle.hg_defs.proofs.SortLaws.{set_of-increasing}
use Rattle.hg_text.specs.Kept.{number_of}
use Rattle.hmetis_read.specs.declared.fault.GraphFault.{GraphFault}
use Rattle.hmetis_read.specs.declared.fault.GraphFault.TheVariants.{Bad, TooLarge}
use Rattle.hmetis_read.specs.declared.fault.LineKind.TheVariants.{WeightRange, PinRange}
use Rattle.hmetis_read.specs.declared.fault.What.TheVariants.{Nets, Vertices, Pins}
use Rattle.hmetis_read.specs.Graph.{Read, ◌>>=◌, each, guarded, value_in, weight_in, pin_in, shape_in, header_in}
use Rattle.hmetis_read.specs.Graph.{pin_numbers, net_in, with_pins_before, vertex_in}
use Rattle.part_text.proofs.LineLemmas.{numbers_kept, number_of-decimal}
use Rattle.hg_make.specs.Text.{format, net_numbers}

-- ---- steps

pub guarded-true : {A : Type 0} (test : Bool) (fault : GraphFault) (value : A) → test ≡ true → guarded test fault value ≡ Ok value
guarded-true test fault value passes = ap (λ (b : Bool). cond b (Ok value) (Err fault)) passes

-- the first of some steps is known
pub first : {A B : Type 0} (r : Read A) (f : A → Read B) (x : A) → r ≡ Ok x → r >>= f ≡ f x
first r f x is = ap (λ q. q >>= f) is

each-next : {A B : Type 0} (f : A → Read B) (x : A) (xs : List A) (y : B) (ys : List B) → f x ≡ Ok y → each f xs ≡ Ok ys → each f (x ∷ xs) ≡ Ok (y ∷ ys)
each-next f x xs y ys one more =
    first (f x) (λ z. each f xs >>= (λ zs. Ok (z ∷ zs))) y one ∙ first (each f xs) (λ zs. Ok (y ∷ zs)) ys more

lt-true : (a b : ℕ) → a < b → nat_lt a b ≡ true
lt-true a b h = grind (arith, nat_tests)

pub le-true : (a b : ℕ) → a ≤ b → nat_le a b ≡ true
le-true a b h = grind (arith, nat_tests)

-- ---- the header

value-read : (line n : ℕ) → n < 2 ^ 64 → value_in line (number_of (decimal n)) ≡ Ok n
value-read line n h = ap (value_in line) (number_of-decimal n h)

values-read : (line : ℕ) (ns : List ℕ) → All (λ n. n < 2 ^ 64) ns → each (value_in line) (map number_of (map decimal ns)) ≡ Ok ns
values-read line [] h = refl
values-read line (n ∷ ns) h =
    each-next (value_in line) (number_of (decimal n)) (map number_of (map decimal ns)) n ns (value-read line n (All-head (λ n. n < 2 ^ 64) n ns h))
    (values-read line ns (All-tail (λ n. n < 2 ^ 64) n ns h))

-- the sizes are within their limits
sizes-read : {A : Type 0} (line m n : ℕ) (shape : A) → m ≤ 2 ^ 22 → n ≤ 2 ^ 22 → guarded (nat_le m (2 ^ 22)) (TooLarge line Nets) m >>=
    (λ few. guarded (nat_le n (2 ^ 22)) (TooLarge line Vertices) shape) ≡ Ok shape
sizes-read line m n shape few_nets few_vertices =
    first (guarded (nat_le m (2 ^ 22)) (TooLarge line Nets) m) (λ few. guarded (nat_le n (2 ^ 22)) (TooLarge line Vertices) shape) m
    (guarded-true (nat_le m (2 ^ 22)) (TooLarge line Nets) m (le-true m (2 ^ 22) few_nets))
    ∙ guarded-true (nat_le n (2 ^ 22)) (TooLarge line Vertices) shape (le-true n (2 ^ 22) few_vertices)

small_three : (m n f : ℕ) → m ≤ 2 ^ 22 → n ≤ 2 ^ 22 → f < 2 ^ 64 → All (λ n. n < 2 ^ 64) (m ∷ n ∷ f ∷ [])
small_three m n f a b c =
    All-cons (λ n. n < 2 ^ 64) m (n ∷ f ∷ []) (omega arith) (All-cons (λ n. n < 2 ^ 64) n (f ∷ []) (omega arith)
    (All-cons (λ n. n < 2 ^ 64) f [] c (All-nil (λ n. n < 2 ^ 64))))

small_two : (m n : ℕ) → m ≤ 2 ^ 22 → n ≤ 2 ^ 22 → All (λ n. n < 2 ^ 64) (m ∷ n ∷ [])
small_two m n a b =
    All-cons (λ n. n < 2 ^ 64) m (n ∷ []) (omega arith) (All-cons (λ n. n < 2 ^ 64) n [] (omega arith) (All-nil (λ n. n < 2 ^ 64)))

pub header-read : (line m n : ℕ) (net_weights vertex_weights : Bool) → m ≤ 2 ^ 22 → n ≤ 2 ^ 22 →
    header_in (numbers_kept (line, m ∷ n ∷ format net_weights vertex_weights)) ≡ Ok
    (record { nets = m; vertices = n; net_weights = net_weights; vertex_weights = vertex_weights })
header-read line m n true true a b =
    first (each (value_in line) (map number_of (map decimal (m ∷ n ∷ 11 ∷ [])))) (λ values. shape_in line (slice_index values 0) (slice_index values 1)
    (slice_index values 2)) (m ∷ n ∷ 11 ∷ []) (values-read line (m ∷ n ∷ 11 ∷ []) (small_three m n 11 a b (lit< tt)))
    ∙ sizes-read line m n (record { nets = m; vertices = n; net_weights = true; vertex_weights = true }) a b
header-read line m n true false a b =
    first (each (value_in line) (map number_of (map decimal (m ∷ n ∷ 1 ∷ [])))) (λ values. shape_in line (slice_index values 0) (slice_index values 1)
    (slice_index values 2)) (m ∷ n ∷ 1 ∷ []) (values-read line (m ∷ n ∷ 1 ∷ []) (small_three m n 1 a b (lit< tt)))
    ∙ sizes-read line m n (record { nets = m; vertices = n; net_weights = true; vertex_weights = false }) a b
header-read line m n false true a b =
    first (each (value_in line) (map number_of (map decimal (m ∷ n ∷ 10 ∷ [])))) (λ values. shape_in line (slice_index values 0) (slice_index values 1)
    (slice_index values 2)) (m ∷ n ∷ 10 ∷ []) (values-read line (m ∷ n ∷ 10 ∷ []) (small_three m n 10 a b (lit< tt)))
    ∙ sizes-read line m n (record { nets = m; vertices = n; net_weights = false; vertex_weights = true }) a b
header-read line m n false false a b =
    first (each (value_in line) (map number_of (map decimal (m ∷ n ∷ [])))) (λ values. shape_in line (slice_index values 0) (slice_index values 1)
    (slice_index values 2)) (m ∷ n ∷ []) (values-read line (m ∷ n ∷ []) (small_two m n a b))
    ∙ sizes-read line m n (record { nets = m; vertices = n; net_weights = false; vertex_weights = false }) a b

-- ---- weights

weight-read : (line w : ℕ) → w < 2 ^ 32 → weight_in line (number_of (decimal w)) ≡ Ok w
weight-read line w h =
    first (value_in line (number_of (decimal w))) (λ v. guarded (nat_lt v (2 ^ 32)) (Bad line WeightRange) v) w (value-read line w (omega arith))
    ∙ guarded-true (nat_lt w (2 ^ 32)) (Bad line WeightRange) w (lt-true w (2 ^ 32) h)

pub weights-read : (start : ℕ) (ws : List ℕ) → All (λ w. w < 2 ^ 32) ws → each vertex_in (map numbers_kept (enumerate_from start (map (λ w. w ∷ []) ws))) ≡
    Ok
    ws
weights-read start [] h = refl
weights-read start (w ∷ ws) h =
    each-next vertex_in (numbers_kept (start, w ∷ [])) (map numbers_kept (enumerate_from (start + 1) (map (λ w. w ∷ []) ws))) w ws
    (weight-read start w (All-head (λ w. w < 2 ^ 32) w ws h)) (weights-read (start + 1) ws (All-tail (λ w. w < 2 ^ 32) w ws h))

-- ---- nets

pin-read : (n line before v : ℕ) → n ≤ 2 ^ 22 → v < n → before < 2 ^ 25 → pin_in n line (before, number_of (decimal (v + 1))) ≡ Ok v
pin-read n line before v few below room =
    let up : nat_le 1 (v + 1) ≡ true = le-true 1 (v + 1) (omega arith) in
    let down : nat_le (v + 1) n ≡ true = le-true (v + 1) n (omega arith) in
    let back : v + 1 - 1 ≡ v = omega arith in
    first (guarded (nat_lt before (2 ^ 25)) (TooLarge line Pins) before) (λ b. value_in line (number_of (decimal (v + 1))) >>=
    (λ value. guarded (nat_le 1 value && nat_le value n) (Bad line PinRange) (value - 1))) before
    (guarded-true (nat_lt before (2 ^ 25)) (TooLarge line Pins) before (lt-true before (2 ^ 25) room))
    ∙ first (value_in line (number_of (decimal (v + 1)))) (λ value. guarded (nat_le 1 value && nat_le value n) (Bad line PinRange) (value - 1)) (v + 1)
    (value-read line (v + 1) (omega arith))
    ∙ guarded-true (nat_le 1 (v + 1) && nat_le (v + 1) n) (Bad line PinRange) (v + 1 - 1) (ap₂ (λ (a b : Bool). a && b) up down)
    ∙ ap Ok back

-- the numbers of pins
abbrev pub pin_fields : List ℕ → List (List ℕ)
pin_fields pins = map decimal (map (λ v. v + 1) pins)

pins-read : (n line before : ℕ) (pins : List ℕ) → n ≤ 2 ^ 22 → All (λ v. v < n) pins → before + length pins ≤ 2 ^ 25 →
    each (pin_in n line) (enumerate_from before (map number_of (pin_fields pins))) ≡ Ok pins
pins-read n line before [] few below room = refl
pins-read n line before (v ∷ pins) few below room =
    each-next (pin_in n line) (before, number_of (decimal (v + 1))) (enumerate_from (before + 1) (map number_of (pin_fields pins))) v pins
    (pin-read n line before v few (All-head (λ v. v < n) v pins below) (omega arith))
    (pins-read n line (before + 1) pins few (All-tail (λ v. v < n) v pins below) (omega arith))

length-pin_fields : (pins : List ℕ) → length (map number_of (pin_fields pins)) ≡ length pins
length-pin_fields pins =
    length-map (pin_fields pins) number_of ∙ length-map (map (λ v. v + 1) pins) decimal ∙ length-map pins (λ v. v + 1)

-- a net of n vertices that can be written with its weight or without it
pub record IsReadable (weighted : Bool) (n : ℕ) (e : Net) : Type 0 where
  pub rising : IsStrictlyIncreasing e.pins
  pub below : All (λ v. v < n) e.pins
  pub small : e.weight < 2 ^ 32
  pub one : weighted ≡ false → e.weight ≡ 1

-- the pins come to their limit at most
abbrev pub AreReadable : Bool → ℕ → ℕ → List Net → Type 0
AreReadable weighted n before [] = Unit {0}
AreReadable weighted n before (e ∷ nets) =
    IsReadable weighted n e × (before + length e.pins ≤ 2 ^ 25) × AreReadable weighted n (before + length e.pins) nets

-- the pins and the weight of a net make the net
net-made : (n line before weight : ℕ) (e : Net) (r : Read ℕ) → n ≤ 2 ^ 22 → IsStrictlyIncreasing e.pins → All (λ v. v < n) e.pins →
    before + length e.pins ≤ 2
    ^ 25 → r ≡ Ok e.weight → r >>= (λ w. each (pin_in n line) (enumerate_from before (map number_of (pin_fields e.pins))) >>=
    (λ pins. Ok (record { weight = w; pins = set_of nat_cmp pins }))) ≡ Ok e
net-made n line before weight e r few rising below room is =
    first r (λ w. each (pin_in n line) (enumerate_from before (map number_of (pin_fields e.pins))) >>=
    (λ pins. Ok (record { weight = w; pins = set_of nat_cmp pins }))) e.weight is
    ∙ first (each (pin_in n line) (enumerate_from before (map number_of (pin_fields e.pins))))
    (λ pins. Ok (record { weight = e.weight; pins = set_of nat_cmp pins })) e.pins (pins-read n line before e.pins few below room)
    ∙ ap (λ pins. Ok (record { weight = e.weight; pins = pins })) (set_of-increasing e.pins rising)

net-read : (m n line before : ℕ) (weighted vertex_weights : Bool) (e : Net) → n ≤ 2 ^ 22 → IsReadable weighted n e → before + length e.pins ≤ 2 ^ 25 →
    net_in (record { nets = m; vertices = n; net_weights = weighted; vertex_weights = vertex_weights })
    (before, numbers_kept (line, net_numbers weighted e)) ≡
    Ok e
net-read m n line before true vertex_weights e few is room =
    net-made n line before e.weight e (weight_in line (number_of (decimal e.weight))) few is.rising is.below room (weight-read line e.weight is.small)
net-read m n line before false vertex_weights e few is room =
    net-made n line before e.weight e (Ok 1) few is.rising is.below room (ap Ok (sym (is.one refl)))

-- the pins before the next net
next_before : (m n line before : ℕ) (weighted vertex_weights : Bool) (e : Net) →
    before + length (pin_numbers (record { nets = m; vertices = n; net_weights = weighted; vertex_weights = vertex_weights })
    (numbers_kept (line, net_numbers weighted e))) ≡ before + length e.pins
next_before m n line before true vertex_weights e = ap (λ k. before + k) (length-pin_fields e.pins)
next_before m n line before false vertex_weights e = ap (λ k. before + k) (length-pin_fields e.pins)

pub nets-read : (m n start before : ℕ) (weighted vertex_weights : Bool) (nets : List Net) → n ≤ 2 ^ 22 → AreReadable weighted n before nets →
    each (net_in (record { nets = m; vertices = n; net_weights = weighted; vertex_weights = vertex_weights }))
    (with_pins_before (record { nets = m; vertices = n; net_weights = weighted; vertex_weights = vertex_weights }) before
    (map numbers_kept (enumerate_from start (map (net_numbers weighted) nets)))) ≡ Ok nets
nets-read m n start before weighted vertex_weights [] few are = refl
nets-read m n start before weighted vertex_weights (e ∷ nets) few are =
    let lines = map numbers_kept (enumerate_from (start + 1) (map (net_numbers weighted) nets)) in
    let line = numbers_kept (start, net_numbers weighted e) in
    each-next (net_in (record { nets = m; vertices = n; net_weights = weighted; vertex_weights = vertex_weights })) (before, line)
    (with_pins_before (record { nets = m; vertices = n; net_weights = weighted; vertex_weights = vertex_weights })
    (before + length (pin_numbers (record { nets = m; vertices = n; net_weights = weighted; vertex_weights = vertex_weights }) line)) lines) e nets
    (net-read m n start before weighted vertex_weights e few are.0 are.1)
    (ap (λ k. each (net_in (record { nets = m; vertices = n; net_weights = weighted; vertex_weights = vertex_weights }))
    (with_pins_before (record { nets = m; vertices = n; net_weights = weighted; vertex_weights = vertex_weights }) k lines))
    (next_before m n start before weighted vertex_weights e) ∙ nets-read m n (start + 1) (before + length e.pins) weighted vertex_weights nets few are.2)
