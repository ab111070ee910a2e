-- Nets of lines, whatever the lines' numbers and the pins before them, and of parts of a text, all of them together.
use Rattle.std.proofs.Common.{◌≡◌, ℕ, zero, suc, ◌+◌, ◌-◌, ◌*◌, ◌^◌, ◌<◌, ◌≤◌, Bool, true, false, ◌&&◌, nat_lt, nat_le, if◌then◌else◌, List, [], ◌∷◌, ◌++◌}
use Rattle.std.proofs.Common.{length, map, take, drop, replicate, slice_index, slice_range, get_or, inl, inr, All, Option, Some, IfSome, Result, Ok, Err, refl, sym, ◌∙◌, ap, ap₂, subst, arith}
use Rattle.std.specs.List.{enumerate_from}
use Rattle.std.specs.Ordering.{nat_cmp}
use Rattle.std.proofs.lemmas.Bool.{ltb-true, lt-ltb, le-leb, cases_lt}
use Rattle.std.proofs.lemmas.List.{length-map, length-append, length-replicate, length_push, get_or_append_left, get_or_push, drop-drop, take_all, drop_all, append-nil, append_assoc}
use Rattle.std.proofs.lemmas.List.FromFn.{length-enumerate_from}
use Rattle.std.proofs.lemmas.List.Elements.{All-cons, All-head, All-tail, All-append, All-push, All-contains, Contains-get_or}
use Rattle.std.proofs.lemmas.Cmp.{nat_cmp_total}
use Rattle.hg_defs.specs.Hypergraph.{Net, Hyper, net_count, IsNet, IsWithinLimits}
use Rattle.hg_defs.specs.Sorting.{set_of}
use Rattle.hg_defs.specs.Sums.{total}
use Rattle.hg_defs.proofs.SumLaws.{total-append, total-replicate}
use Rattle.hg_defs.proofs.SortLaws.{nat_cmp_exact, length-set_of-le, increasing-set_of, Contains-from_set_of}
use Rattle.hg_text.specs.Kept.{Line, Reading, reading, field_lists}
use Rattle.hg_text.specs.declared.numeral.BadNumber.{BadNumber}
use Rattle.hg_text.specs.declared.numeral.BadNumber.TheVariants.{NotDigits, TooBig}
use Rattle.hmetis_read.specs.Graph.{Read, ◌>>=◌, each, guarded, value_in, weight_in, pin_in, first_number, net_weight_in, pin_numbers, net_in}
use Rattle.hmetis_read.specs.Graph.{with_pins_before, nets_in, first_in, read_on, vertex_in, ended, body_in, shape_of, graph}
use Rattle.hmetis_read.specs.Shares.{line_with, net_at, pins_spelt, with_nets, SpellsNets, AreLight, AreCuts, part_of}
use Rattle.hmetis_read.specs.declared.fault.GraphFault.{GraphFault}
use Rattle.hmetis_read.specs.declared.fault.GraphFault.TheVariants.{Bad, TooLarge}
use Rattle.hmetis_read.specs.declared.fault.What.TheVariants.{Pins}
use Rattle.hg_defs.specs.declared.objective.TheConstants.{FREE}
use Rattle.hg_defs.specs.declared.objective.Objective.TheVariants.{Connectivity}
use Rattle.hmetis_read.specs.declared.fault.LineKind.TheVariants.{NotNumber, WeightRange, PinRange, MissingLine}
use Rattle.hmetis_read.specs.declared.header.Shape.{Shape}
use Rattle.hmetis_read.proofs.Each.{with_front, front_ok}
use Rattle.hmetis_read.proofs.Lines.{product_le}
use Rattle.hmetis_read.proofs.Counted.{ok_same, err_ok, bind_ok, guarded_ok, each_length}

-- ---- a line read elsewhere

guarded_moves : {A : Type 0} (test : Bool) (e f : GraphFault) (x y : A) → guarded test e x ≡ Ok y → guarded test f x ≡ Ok y
guarded_moves true e f x y h = h
guarded_moves false e f x y h = absurd (err_ok e y h)

bind_moves : {A B : Type 0} (r s : Read A) (f g : A → Read B) (y : B) → ((x : A) → r ≡ Ok x → s ≡ Ok x) → ((x : A) → f x ≡ Ok y → g x ≡ Ok y) →
    (r >>= f) ≡ Ok y → (s >>= g) ≡ Ok y
bind_moves {A = A} r s f g y first later e =
    let one = bind_ok r f y e in
    ap (λ (t : Read A). t >>= g) (first one.0 one.1) ∙ later one.0 one.2

value_moves : (n m : ℕ) (number : Result ℕ BadNumber) (value : ℕ) → value_in n number ≡ Ok value → value_in m number ≡ Ok value
value_moves n m (Ok x) value e = e
value_moves n m (Err TooBig) value e = e
value_moves n m (Err NotDigits) value e = absurd (err_ok (Bad n NotNumber) value e)

weight_moves : (n m : ℕ) (number : Result ℕ BadNumber) (weight : ℕ) → weight_in n number ≡ Ok weight → weight_in m number ≡ Ok weight
weight_moves n m number weight =
    bind_moves (value_in n number) (value_in m number) (λ w. guarded (nat_lt w (2 ^ 32)) (Bad n WeightRange) w)
    (λ w. guarded (nat_lt w (2 ^ 32)) (Bad m WeightRange) w) weight (value_moves n m number)
    (λ w. guarded_moves (nat_lt w (2 ^ 32)) (Bad n WeightRange) (Bad m WeightRange) w weight)

net_weight_moves : (shape : Shape) (n m : ℕ) (fields : List (List ℕ)) (weight : ℕ) →
    net_weight_in shape (record { number = n; fields = fields }) ≡ Ok weight →
    net_weight_in shape (record { number = m; fields = fields }) ≡ Ok weight
net_weight_moves shape n m fields weight = by shape.net_weights
  where
    by : (b : Bool) → (if b then weight_in n (first_number (record { number = n; fields = fields })) else Ok 1) ≡ Ok weight →
        (if b then weight_in m (first_number (record { number = n; fields = fields })) else Ok 1) ≡ Ok weight
    by true e = weight_moves n m (first_number (record { number = n; fields = fields })) weight e
    by false e = e

pin_moves : (vertices n m b c : ℕ) (number : Result ℕ BadNumber) (pin : ℕ) → c < 2 ^ 25 → pin_in vertices n (b, number) ≡ Ok pin →
    pin_in vertices m (c, number) ≡ Ok pin
pin_moves vertices n m b c number pin few e =
    let late = λ (k : ℕ) (v : ℕ). guarded (nat_le 1 v && nat_le v vertices) (Bad k PinRange) (v - 1) in
    let one = bind_ok (guarded (nat_lt b (2 ^ 25)) (TooLarge n Pins) b) (λ x. value_in n number >>= late n) pin e in
    ap (λ (t : Bool). guarded t (TooLarge m Pins) c >>= λ x. value_in m number >>= late m) (lt-ltb c (2 ^ 25) few)
    ∙ bind_moves (value_in n number) (value_in m number) (late n) (late m) pin (value_moves n m number)
    (λ v. guarded_moves (nat_le 1 v && nat_le v vertices) (Bad n PinRange) (Bad m PinRange) (v - 1) pin) one.2

pins_move : (vertices n m b c : ℕ) (numbers : List (Result ℕ BadNumber)) (pins : List ℕ) → c + length numbers ≤ 2 ^ 25 →
    each (pin_in vertices n) (enumerate_from b numbers) ≡ Ok pins → each (pin_in vertices m) (enumerate_from c numbers) ≡ Ok pins
pins_move vertices n m b c [] pins few e = e
pins_move vertices n m b c (number ∷ numbers) pins few e =
    bind_moves (pin_in vertices n (b, number)) (pin_in vertices m (c, number))
    (λ p. each (pin_in vertices n) (enumerate_from (b + 1) numbers) >>= λ ps. Ok (p ∷ ps))
    (λ p. each (pin_in vertices m) (enumerate_from (c + 1) numbers) >>= λ ps. Ok (p ∷ ps)) pins
    (λ p. pin_moves vertices n m b c number p (omega arith))
    (λ p. bind_moves (each (pin_in vertices n) (enumerate_from (b + 1) numbers)) (each (pin_in vertices m) (enumerate_from (c + 1) numbers))
    (λ ps. Ok (p ∷ ps)) (λ ps. Ok (p ∷ ps)) pins (λ ps. pins_move vertices n m (b + 1) (c + 1) numbers ps (omega arith)) (λ ps h. h)) e

-- a net doesn't depend on the line's number, nor on the pins before it, where they aren't too many
pub net_moves : (shape : Shape) (n m b c : ℕ) (fields : List (List ℕ)) (net : Net) → c + length (pin_numbers shape (line_with fields)) ≤ 2 ^ 25 →
    net_in shape (b, record { number = n; fields = fields }) ≡ Ok net → net_in shape (c, record { number = m; fields = fields }) ≡ Ok net
net_moves shape n m b c fields net few =
    let numbers = pin_numbers shape (line_with fields) in
    let end : ℕ → List ℕ → Read Net = λ w ps. Ok (record { weight = w; pins = set_of nat_cmp ps }) in
    let old = each (pin_in shape.vertices n) (enumerate_from b numbers) in
    let new = each (pin_in shape.vertices m) (enumerate_from c numbers) in
    bind_moves (net_weight_in shape (record { number = n; fields = fields })) (net_weight_in shape (record { number = m; fields = fields }))
    (λ w. old >>= end w) (λ w. new >>= end w) net (net_weight_moves shape n m fields)
    (λ w. bind_moves old new (end w) (end w) net (λ ps. pins_move shape.vertices n m b c numbers ps few) (λ ps h. h))

abbrev pub fields_of : Line → List (List ℕ)
fields_of line = line.fields

nets_move : (shape : Shape) (before : ℕ) (lines : List Line) (nets : List Net) → before + pins_spelt shape (map fields_of lines) ≤ 2 ^ 25 →
    each (net_at shape) (map fields_of lines) ≡ Ok nets → each (net_in shape) (with_pins_before shape before lines) ≡ Ok nets
nets_move shape before [] nets few e = e
nets_move shape before (line ∷ lines) nets few e =
    let size = length (pin_numbers shape line) in
    let late = each (net_at shape) (map fields_of lines) in
    let here = each (net_in shape) (with_pins_before shape (before + size) lines) in
    bind_moves (net_at shape line.fields) (net_in shape (before, line)) (λ y. late >>= λ ys. Ok (y ∷ ys)) (λ y. here >>= λ ys. Ok (y ∷ ys)) nets
    (λ y. net_moves shape 0 line.number 0 before line.fields y (omega arith))
    (λ y. bind_moves late here (λ ys. Ok (y ∷ ys)) (λ ys. Ok (y ∷ ys)) nets (λ ys. nets_move shape (before + size) lines ys (omega arith)) (λ ys h. h)) e

-- one more line is read
pub net_more : (shape : Shape) (front : List Net) (line : Line) (kept later : List Line) (before : ℕ) (net : Net) → kept ≡ line ∷ later →
    length (pin_numbers shape line) ≤ 2 ^ 25 → net_in shape (before, line) ≡ Ok net →
    with_front (front ++ net ∷ []) (each (net_at shape) (map fields_of later)) ≡ with_front front (each (net_at shape) (map fields_of kept))
net_more shape front line kept later before net first few e =
    sym (ap (λ (ls : List Line). with_front front (each (net_at shape) (map fields_of ls))) first
    ∙ front_ok (net_at shape) front line.fields (map fields_of later) net (net_moves shape line.number 0 before 0 line.fields net (omega arith) e))

-- one more net of the vertices, whose pins are a set of them
pub sound_more : (vertices weight : ℕ) (nets : List Net) (pins : List ℕ) → All (IsNet vertices) nets → All (λ v. v < vertices) pins →
    All (IsNet vertices) (nets ++ record { weight = weight; pins = set_of nat_cmp pins } ∷ [])
sound_more vertices weight nets pins sound below =
    All-push (IsNet vertices) nets (record { weight = weight; pins = set_of nat_cmp pins }) sound (record {
      rising = increasing-set_of pins;
      pins = λ k d l. All-contains (λ v. v < vertices) pins (get_or (set_of nat_cmp pins) k d) below
          (Contains-from_set_of nat_cmp_total nat_cmp_exact pins (get_or (set_of nat_cmp pins) k d) (Contains-get_or (set_of nat_cmp pins) k d l));
    })

-- ---- nets that were read are light

net_weight_light : (shape : Shape) (line : Line) (weight : ℕ) → net_weight_in shape line ≡ Ok weight → weight < 2 ^ 32
net_weight_light shape line weight = by shape.net_weights
  where
    by : (b : Bool) → (if b then weight_in line.number (first_number line) else Ok 1) ≡ Ok weight → weight < 2 ^ 32
    by true e =
        let one = bind_ok (value_in line.number (first_number line)) (λ w. guarded (nat_lt w (2 ^ 32)) (Bad line.number WeightRange) w) weight e in
        let test = guarded_ok (nat_lt one.0 (2 ^ 32)) (Bad line.number WeightRange) one.0 weight one.2 in
        subst (λ (w : ℕ). w < 2 ^ 32) test.1 (ltb-true one.0 (2 ^ 32) test.0)
    by false e = let same : 1 ≡ weight = ok_same 1 weight e in omega arith

net_light : (shape : Shape) (fields : List (List ℕ)) (net : Net) → net_at shape fields ≡ Ok net →
    (net.weight < 2 ^ 32) × (length net.pins ≤ length (pin_numbers shape (line_with fields)))
net_light shape fields net e =
    let line = line_with fields in
    let numbers = pin_numbers shape line in
    let one = bind_ok (net_weight_in shape line) _ net e in
    let two = bind_ok (each (pin_in shape.vertices 0) (enumerate_from 0 numbers)) _ net one.2 in
    let same = ok_same (record { weight = one.0; pins = set_of nat_cmp two.0 }) net two.2 in
    let size = each_length (pin_in shape.vertices 0) (enumerate_from 0 numbers) two.0 two.1 in
    let all = length-enumerate_from 0 numbers in
    let fewer = length-set_of-le nat_cmp two.0 in
    let pins = ap (λ (f : Net). length f.pins) same in
    (subst (λ (f : Net). f.weight < 2 ^ 32) same (net_weight_light shape line one.0 one.1), omega arith)

nets_light : (shape : Shape) (lists : List (List (List ℕ))) (nets : List Net) → each (net_at shape) lists ≡ Ok nets →
    All (λ e. e.weight < 2 ^ 32) nets × (total (λ e. length e.pins) nets ≤ pins_spelt shape lists)
nets_light shape [] nets e = subst (λ (es : List Net). All (λ e. e.weight < 2 ^ 32) es × (total (λ e. length e.pins) es ≤ 0)) (ok_same [] nets e)
    (λ k d h. absurd (omega arith), omega arith)
nets_light shape (fields ∷ lists) nets e =
    let one = bind_ok (net_at shape fields) _ nets e in
    let more = bind_ok (each (net_at shape) lists) _ nets one.2 in
    let light = net_light shape fields one.0 one.1 in
    let later = nets_light shape lists more.0 more.1 in
    let sum = later.1 in
    let here = light.1 in
    subst (λ (es : List Net). All (λ e. e.weight < 2 ^ 32) es × (total (λ e. length e.pins) es ≤ pins_spelt shape (fields ∷ lists)))
    (ok_same (one.0 ∷ more.0) nets more.2)
    (All-cons (λ (e : Net). e.weight < 2 ^ 32) one.0 more.0 light.0 later.0, omega arith)

pub are_light : (shape : Shape) (lists : List (List (List ℕ))) (nets : List Net) (pins : ℕ) → SpellsNets shape lists nets pins → AreLight shape nets pins
are_light shape lists nets pins spells =
    let light = nets_light shape lists nets spells.read in
    let size = spells.spelt in
    let sum = light.1 in
    record { light = light.0; most = omega arith; limit = spells.limit; count = spells.count; sound = spells.sound }

weights_light : (es : List Net) → All (λ e. e.weight < 2 ^ 32) es → total (λ e. e.weight) es ≤ (2 ^ 32 - 1) * length es
weights_light [] all = omega arith
weights_light (e ∷ es) all =
    omega (arith, weights_light es (All-tail (λ (f : Net). f.weight < 2 ^ 32) e es all), All-head (λ (f : Net). f.weight < 2 ^ 32) e es all)

products_light : (es : List Net) → All (λ e. e.weight < 2 ^ 32) es → total (λ e. e.weight * length e.pins) es ≤ (2 ^ 32 - 1) * total (λ e. length e.pins) es
products_light [] all = omega arith
products_light (e ∷ es) all =
    omega (
      arith,
      products_light es (All-tail (λ (f : Net). f.weight < 2 ^ 32) e es all),
      product_le e.weight (length e.pins) (length e.pins) (All-head (λ (f : Net). f.weight < 2 ^ 32) e es all) (omega arith),
    )

-- the nets of a part behind those of others are within the limits
pub within_limits : (shape : Shape) (ns ms : List Net) (p q : ℕ) → AreLight shape ns p → AreLight shape ms q → p + q ≤ 2 ^ 25 →
    length ns + length ms ≤ 2 ^ 22 → shape.vertices ≤ 2 ^ 22 → IsWithinLimits (with_nets shape (ns ++ ms))
within_limits shape ns ms p q first second limit few vertices =
    let all = All-append (λ (e : Net). e.weight < 2 ^ 32) ns ms first.light second.light in
    let size = length-append ns ms in
    let sum = total-append (λ (e : Net). length e.pins) ns ms in
    let one = first.most in
    let two = second.most in
    let weights = weights_light (ns ++ ms) all in
    let products = products_light (ns ++ ms) all in
    let count = length-replicate {A = ℕ} shape.vertices 1 in
    let ones = total-replicate (λ w. w) shape.vertices 1 in
    record {
      vertices = omega arith;
      nets = omega arith;
      pins = omega arith;
      weight = omega arith;
      net_weight = omega arith;
      pin_weight = omega arith;
    }

-- ---- parts together

each-append : {A B : Type 0} (f : A → Read B) (xs ys : List A) (vs ws : List B) → each f xs ≡ Ok vs → each f ys ≡ Ok ws → each f (xs ++ ys) ≡ Ok (vs ++ ws)
each-append {B = B} f [] ys vs ws e d = d ∙ ap (λ (cs : List B). Ok (cs ++ ws)) (ok_same [] vs e)
each-append {B = B} f (x ∷ xs) ys vs ws e d =
    let one = bind_ok (f x) (λ y. each f xs >>= λ zs. Ok (y ∷ zs)) vs e in
    let more = bind_ok (each f xs) (λ zs. Ok (one.0 ∷ zs)) vs one.2 in
    ap (λ (r : Read B). r >>= λ y. each f (xs ++ ys) >>= λ zs. Ok (y ∷ zs)) one.1
    ∙ ap (λ (r : Read (List B)). r >>= λ zs. Ok (one.0 ∷ zs)) (each-append f xs ys more.0 ws more.1 d)
    ∙ ap (λ (cs : List B). Ok (cs ++ ws)) (ok_same (one.0 ∷ more.0) vs more.2)

pub spells_joined : (shape : Shape) (xs ys : List (List (List ℕ))) (ns ms : List Net) (p q sum : ℕ) → SpellsNets shape xs ns p → SpellsNets shape ys ms q →
    sum ≡ p + q → sum ≤ 2 ^ 25 → length (ns ++ ms) ≤ shape.nets → SpellsNets shape (xs ++ ys) (ns ++ ms) sum
spells_joined shape xs ys ns ms p q sum first second both limit count =
    let size = total-append (λ (fields : List (List ℕ)). length (pin_numbers shape (line_with fields))) xs ys in
    let one = first.spelt in
    let two = second.spelt in
    record {
      read = each-append (net_at shape) xs ys ns ms first.read second.read;
      spelt = omega arith;
      limit = limit;
      count = count;
      sound = All-append (IsNet shape.vertices) ns ms first.sound second.sound;
    }

-- a part that is there
pub part_at : {X : Type 0} (parts : List (Option X)) (part : Option X) (j : ℕ) (x : X) (P : X → Type 0) →
    part ≡ get_or parts j part → part ≡ Some x → IfSome (get_or parts j part) P → P x
part_at {X = X} parts part j x P read is h = subst (λ (o : Option X). IfSome o P) (sym read ∙ is) h

-- the lines of the first parts
abbrev pub lists_before : List ℕ → List ℕ → ℕ → List (List (List ℕ))
lists_before text cuts zero = []
lists_before text cuts (suc j) = lists_before text cuts j ++ field_lists (part_of text cuts j)

module _ (text cuts : List ℕ) (are : AreCuts text (length text) cuts) where
  lists_split : (j : ℕ) → j < length cuts → field_lists text ≡ lists_before text cuts j ++ field_lists (drop (slice_index cuts j) text)
  lists_split zero h = sym (ap (λ (n : ℕ). field_lists (drop n text)) are.first)
  lists_split (suc j) h =
      let next : j + 1 ≡ suc j = omega arith in
      lists_split j (omega arith)
      ∙ ap (λ (fs : List (List (List ℕ))). lists_before text cuts j ++ fs) (are.parts j (omega arith))
      ∙ sym (append_assoc (lists_before text cuts j) (field_lists (part_of text cuts j)) (field_lists (drop (slice_index cuts (j + 1)) text)))
      ∙ ap (λ (n : ℕ). lists_before text cuts (suc j) ++ field_lists (drop (slice_index cuts n) text)) next

  pub lists_all : (j : ℕ) → j + 1 ≡ length cuts → lists_before text cuts j ≡ field_lists text
  lists_all j h =
      let last : length cuts - 1 ≡ j = omega arith in
      sym (lists_split j (omega arith)
      ∙ ap (λ (n : ℕ). lists_before text cuts j ++ field_lists (drop (slice_index cuts n) text)) (sym last)
      ∙ ap (λ (n : ℕ). lists_before text cuts j ++ field_lists (drop n text)) are.last
      ∙ ap (λ (xs : List ℕ). lists_before text cuts j ++ field_lists xs) (drop_all (length text) text (omega arith))
      ∙ append-nil (lists_before text cuts j))

-- one cut more
module _ (cuts : List ℕ) (end next : ℕ) (some : 0 < length cuts) (last : slice_index cuts (length cuts - 1) ≡ end) where
  cut_old : (j : ℕ) → j < length cuts → slice_index (cuts ++ next ∷ []) j ≡ slice_index cuts j
  cut_old j h = get_or_append_left cuts (next ∷ []) 0 j h

  cut_next : slice_index (cuts ++ next ∷ []) (length cuts) ≡ next
  cut_next = get_or_push cuts next 0 (length cuts) refl

  -- what holds of neighbours
  cut_pairs : (P : ℕ → ℕ → Type 0) → ((j : ℕ) → j + 1 < length cuts → P (slice_index cuts j) (slice_index cuts (j + 1))) → P end next →
      (j : ℕ) → j < length cuts → P (slice_index (cuts ++ next ∷ []) j) (slice_index (cuts ++ next ∷ []) (j + 1))
  cut_pairs P old new j h =
      elim (cases_lt (j + 1) (length cuts)) [
        | inl low ↦ subst (λ (a : ℕ). P a (slice_index (cuts ++ next ∷ []) (j + 1))) (sym (cut_old j h))
            (subst (P (slice_index cuts j)) (sym (cut_old (j + 1) low)) (old j low))
        | inr high ↦
            (let at : j ≡ length cuts - 1 = omega arith in
            let behind : j + 1 ≡ length cuts = omega arith in
            subst (λ (a : ℕ). P a (slice_index (cuts ++ next ∷ []) (j + 1)))
            (sym (cut_old j h ∙ ap (slice_index cuts) at ∙ last))
            (subst (P end) (sym (ap (slice_index (cuts ++ next ∷ [])) behind ∙ cut_next)) new))
      ]

pub cuts_more : (text : List ℕ) (end count : ℕ) (cuts : List ℕ) → AreCuts text end cuts → end + count ≤ length text →
    field_lists (drop end text) ≡ field_lists (take count (drop end text)) ++ field_lists (drop count (drop end text)) →
    AreCuts text (end + count) (cuts ++ (end + count) ∷ [])
cuts_more text end count cuts are within kept =
    let next = end + count in
    let size = length_push cuts next in
    let old = cut_old cuts end next are.some are.last in
    let at = cut_next cuts end next are.some are.last in
    let pairs = cut_pairs cuts end next are.some are.last in
    let behind : length (cuts ++ next ∷ []) - 1 ≡ length cuts = omega arith in
    let some = are.some in
    record {
      some = omega arith;
      first = old 0 some ∙ are.first;
      last = ap (slice_index (cuts ++ next ∷ [])) behind ∙ at;
      rising = λ j h. pairs (λ a b. a ≤ b) are.rising (omega arith) j (omega arith);
      within = λ j h. elim (cases_lt j (length cuts)) [
        | inl low ↦ subst (λ (a : ℕ). a ≤ length text) (sym (old j low)) (are.within j low)
        | inr high ↦
            (let here : j ≡ length cuts = omega arith in
            subst (λ (a : ℕ). a ≤ length text) (sym (ap (slice_index (cuts ++ next ∷ [])) here ∙ at)) within)
      ];
      parts = λ j h. pairs (λ a b. field_lists (drop a text) ≡ field_lists (slice_range text a b) ++ field_lists (drop b text)) are.parts
          (let long : next - end ≡ count = omega arith in
          kept ∙ ap₂ (λ (n : ℕ) (xs : List ℕ). field_lists (take n (drop end text)) ++ field_lists xs) (sym long) (drop-drop count end text)) j (omega arith);
    }

-- ---- the whole text

nets_first : (shape : Shape) (text : Reading) (nets : List Net) → each (net_in shape) (with_pins_before shape 0 text.kept) ≡ Ok nets →
    length text.kept ≡ shape.nets → first_in shape.nets (nets_in shape) text ≡ Ok nets
nets_first shape text nets e size =
    let all = take_all shape.nets text.kept (omega arith) in
    let enough = le-leb shape.nets (length text.kept) (omega arith) in
    let fault = Bad (text.count + 1) MissingLine in
    ap (λ (ls : List Line). nets_in shape ls >>= λ values. guarded (nat_le shape.nets (length text.kept)) fault values) all
    ∙ ap (λ (r : Read (List Net)). r >>= λ values. guarded (nat_le shape.nets (length text.kept)) fault values) e
    ∙ ap (λ (b : Bool). guarded b fault nets) enough

body_spelt : (shape : Shape) (text : Reading) (h : Hyper) (pins : ℕ) → shape.vertex_weights ≡ false →
    SpellsNets shape (map fields_of text.kept) h.nets pins → h ≡ with_nets shape h.nets → net_count h ≡ shape.nets → body_in shape text ≡ Ok h
body_spelt shape text h pins plain spells others count =
    let lists = map fields_of text.kept in
    let few = spells.limit in
    let spelt = spells.spelt in
    let nets = nets_move shape 0 text.kept h.nets (omega arith) spells.read in
    let size = each_length (net_at shape) lists h.nets spells.read in
    let same = length-map text.kept fields_of in
    let long : length text.kept ≡ shape.nets = omega arith in
    let none : drop shape.nets text.kept ≡ [] = drop_all shape.nets text.kept (omega arith) in
    let whole : List Net → List ℕ → Hyper = λ es ws. record { weights = ws; nets = es; objective = Connectivity; fixes = replicate shape.vertices FREE } in
    let behind = λ (es : List Net) (b : Bool) (ls : List Line).
    (if b then first_in shape.vertices (each vertex_in) (record text { kept = ls }) else Ok (replicate shape.vertices 1)) >>= λ ws.
    ended (drop (if b then shape.vertices else 0) ls) (whole es ws) in
    ap (λ (r : Read (List Net)). r >>= λ es. behind es shape.vertex_weights (drop shape.nets text.kept)) (nets_first shape text h.nets nets long)
    ∙ ap₂ (λ (b : Bool) (ls : List Line). behind h.nets b ls) plain none
    ∙ ap Ok (sym others)

-- the text is spelt by the nets of the lines behind its header
pub graph_spelt : (bytes rest : List ℕ) (shape : Shape) (h : Hyper) (pins : ℕ) → shape_of (reading bytes) ≡ Ok shape → shape.vertex_weights ≡ false →
    map fields_of (read_on 1 (reading bytes)).kept ≡ field_lists rest → SpellsNets shape (field_lists rest) h.nets pins → h ≡ with_nets shape h.nets →
    net_count h ≡ shape.nets → graph bytes ≡ Ok h
graph_spelt bytes rest shape h pins header plain lists spells others count =
    ap (λ (r : Read Shape). r >>= λ s. body_in s (read_on 1 (reading bytes))) header
    ∙ body_spelt shape (read_on 1 (reading bytes)) h pins plain
    (subst (λ (fs : List (List (List ℕ))). SpellsNets shape fs h.nets pins) (sym lists) spells) others count
