-- A hypergraph file that was written is read back.
use Rattle.std.proofs.Common.{◌≡◌, ℕ, suc, ◌+◌, ◌^◌, ◌<◌, ◌≤◌, Bool, true, false, not, ◌||◌, eqb, List, [], ◌∷◌, ◌++◌}
use Rattle.std.proofs.Common.{length, map, take, drop, All, refl, sym, ap, ap₂, ◌∙◌, subst, arith, lit<}
use Rattle.std.proofs.lemmas.Bool.Decides.{nat_tests}
use Rattle.std.proofs.lemmas.List.{length-map, ext_get_or, get_or-replicate, length-replicate, length-append, take_all}
use Rattle.std.proofs.lemmas.List.Elements.{All-head, All-tail, All-cons, All-nil, All-map}
use Rattle.std.proofs.lemmas.List.FromFn.{length-enumerate_from}
use Rattle.std.proofs.Math.Seq.{take-append_seam, drop-append_seam, drop-length}
use Rattle.std.specs.Prelude.{Ok, nat_le, replicate, if◌then◌else◌}
use Rattle.std.specs.List.{enumerate_from, list_any}
use Rattle.hg_defs.specs.declared.objective.TheConstants.{FREE}
use Rattle.hg_defs.specs.declared.objective.Objective.{Objective}
use Rattle.hg_defs.specs.declared.objective.Objective.TheVariants.{Connectivity}
use Rattle.hg_defs.specs.Sums.{total}
use Rattle.hg_defs.specs.Hypergraph.{Net, Hyper, IsNet, vertex_count, net_count}
use Rattle.hg_text.specs.Kept.{Line, Reading, lines, kept_from}
use Rattle.hmetis_read.specs.declared.fault.GraphFault.TheVariants.{Bad}
use Rattle.hmetis_read.specs.declared.fault.LineKind.TheVariants.{MissingLine}
use Rattle.hmetis_read.specs.Graph.{Read, ◌>>=◌, each, guarded, first_in, read_on, nets_in, vertex_in, vertex_lines, weights_in, ended, body_in, shape_of}
use Rattle.part_text.proofs.LineLemmas.{AreLines, numbers_kept, kept_from-numbers}
use Rattle.hg_make.specs.Text.{needs_weight, are_nets_weighted, are_vertices_weighted, format, net_numbers, hypergraph_text}
use Rattle.hg_make.specs.Laws.{IsWritable, HypergraphIsReadBack}
use Rattle.hg_make.proofs.GraphLemmas.{first, guarded-true, le-true, header-read, weights-read, AreReadable, nets-read}

-- ---- lists of lines

kept-append : (start : ℕ) (xs ys : List (List ℕ)) → map numbers_kept (enumerate_from start (xs ++ ys)) ≡ map numbers_kept (enumerate_from start xs) ++ map
    numbers_kept (enumerate_from (start + length xs) ys)
kept-append start [] ys = ap (λ n. map numbers_kept (enumerate_from n ys)) (omega arith)
kept-append start (x ∷ xs) ys =
    let next : start + 1 + length xs ≡ start + suc (length xs) = omega arith in
    ap (λ (ls : List Line). numbers_kept (start, x) ∷ ls) (kept-append (start + 1) xs ys ∙
    ap (λ n. map numbers_kept (enumerate_from (start + 1) xs) ++ map numbers_kept (enumerate_from n ys)) next)

length-kept : (start : ℕ) (xs : List (List ℕ)) → length (map numbers_kept (enumerate_from start xs)) ≡ length xs
length-kept start xs = length-map (enumerate_from start xs) numbers_kept ∙ length-enumerate_from start xs

AreLines-append : (xs ys : List (List ℕ)) → AreLines xs → AreLines ys → AreLines (xs ++ ys)
AreLines-append [] ys a b = b
AreLines-append ([] ∷ xs) ys a b = absurd a
AreLines-append ((n ∷ ns) ∷ xs) ys a b = (a.0, AreLines-append xs ys a.1 b)

-- a test that no element passes
none_passes : {A : Type 0} (p : A → Bool) (xs : List A) → list_any p xs ≡ false → All (λ x. p x ≡ false) xs
none_passes p [] h = All-nil (λ x. p x ≡ false)
none_passes p (x ∷ xs) h = step (p x) refl h (none_passes p xs) where
  step : (b : Bool) → p x ≡ b → b || list_any p xs ≡ false → (list_any p xs ≡ false → All (λ x. p x ≡ false) xs) → All (λ x. p x ≡ false) (x ∷ xs)
  step true e g later = cc
  step false e g later = All-cons (λ x. p x ≡ false) x xs e (later g)

-- ---- the nets of a hypergraph

-- what holds of each net that is written
pub record IsNetWritable (weighted : Bool) (n : ℕ) (e : Net) : Type 0 where
  pub net : IsNet n e
  pub small : e.weight < 2 ^ 32
  pub one : weighted ≡ false → needs_weight e ≡ false

weight-one : (e : Net) → needs_weight e ≡ false → e.weight ≡ 1
weight-one e h = grind (arith, nat_tests)

pins-some : (e : Net) → needs_weight e ≡ false → 0 < length e.pins
pins-some e h = grind (arith, nat_tests)

readable : (weighted : Bool) (n before : ℕ) (nets : List Net) → All (IsNetWritable weighted n) nets → before + total (λ e. length e.pins) nets ≤ 2 ^ 25 →
    AreReadable weighted n before nets
readable weighted n before [] are room = tt
readable weighted n before (e ∷ nets) are room =
    let is = All-head (IsNetWritable weighted n) e nets are in (
      record { rising = is.net.rising; below = is.net.pins; small = is.small; one = λ h. weight-one e (is.one h) },
      omega arith,
      readable weighted n (before + length e.pins) nets (All-tail (IsNetWritable weighted n) e nets are) (omega arith),
    )

pins-small : (n : ℕ) (pins : List ℕ) → n ≤ 2 ^ 22 → All (λ v. v < n) pins → All (λ m. m < 2 ^ 64) (map (λ v. v + 1) pins)
pins-small n pins few below =
    All-map (λ m. m < 2 ^ 64) (λ v. v + 1) pins (λ k d h. let low = below k d h in omega arith)

line-pins : (n : ℕ) (pins : List ℕ) (ls : List (List ℕ)) → n ≤ 2 ^ 22 → All (λ v. v < n) pins → 0 < length pins → AreLines ls →
    AreLines (map (λ v. v + 1) pins ∷ ls)
line-pins n [] ls few below some are = absurd (omega arith)
line-pins n (v ∷ pins) ls few below some are = (pins-small n (v ∷ pins) few below, are)

net-lines : (weighted : Bool) (n : ℕ) (nets : List Net) → n ≤ 2 ^ 22 → All (IsNetWritable weighted n) nets → AreLines (map (net_numbers weighted) nets)
net-lines weighted n [] few are = tt
net-lines true n (e ∷ nets) few are =
    let is = All-head (IsNetWritable true n) e nets are in (
      All-cons (λ m. m < 2 ^ 64) e.weight (map (λ v. v + 1) e.pins) (let small = is.small in omega arith) (pins-small n e.pins few is.net.pins),
      net-lines true n nets few (All-tail (IsNetWritable true n) e nets are),
    )
net-lines false n (e ∷ nets) few are =
    let is = All-head (IsNetWritable false n) e nets are in
    line-pins n e.pins (map (net_numbers false) nets) few is.net.pins (pins-some e (is.one refl))
    (net-lines false n nets few (All-tail (IsNetWritable false n) e nets are))

-- ---- the weights of vertices

abbrev weight_lines : Bool → List ℕ → List (List ℕ)
weight_lines weighted ws = if weighted then map (λ w. w ∷ []) ws else []

weights-lines : (weighted : Bool) (ws : List ℕ) → All (λ w. w < 2 ^ 32) ws → AreLines (weight_lines weighted ws)
weights-lines false ws small = tt
weights-lines true [] small = tt
weights-lines true (w ∷ ws) small = (
  All-cons (λ m. m < 2 ^ 64) w [] (let h = All-head (λ w. w < 2 ^ 32) w ws small in omega arith) (All-nil (λ m. m < 2 ^ 64)),
  weights-lines true ws (All-tail (λ w. w < 2 ^ 32) w ws small),
)

is-one : (w : ℕ) → not (eqb w 1) ≡ false → w ≡ 1
is-one w h = grind (arith, nat_tests)

all_ones : (ws : List ℕ) → All (λ w. not (eqb w 1) ≡ false) ws → replicate (length ws) 1 ≡ ws
all_ones [] h = refl
all_ones (w ∷ ws) h =
    ap₂ (λ v vs. v ∷ vs) (sym (is-one w (All-head (λ w. not (eqb w 1) ≡ false) w ws h))) (all_ones ws (All-tail (λ w. not (eqb w 1) ≡ false) w ws h))

-- ---- the body

first-read : {A : Type 0} (count : ℕ) (read : List Line → Read A) (text : Reading) (value : A) → read (take count text.kept) ≡ Ok value →
    count ≤ length text.kept → first_in count read text ≡ Ok value
first-read count read text value is enough =
    first (read (take count text.kept)) (λ v. guarded (nat_le count (length text.kept)) (Bad (text.count + 1) MissingLine) v) value is
    ∙ guarded-true (nat_le count (length text.kept)) (Bad (text.count + 1) MissingLine) value (le-true count (length text.kept) enough)

-- the hypergraph of what was read
abbrev made_of : ℕ → List Net → List ℕ → Hyper
made_of n nets ws = record { weights = ws; nets = nets; objective = Connectivity; fixes = replicate n FREE }

-- the part of the body behind the nets
abbrev tail_in : ℕ → ℕ → Bool → Bool → ℕ → List Net → List Line → Read Hyper
tail_in m n net_weights vertex_weights count nets rest =
    weights_in (record { nets = m; vertices = n; net_weights = net_weights; vertex_weights = vertex_weights }) (record { kept = rest; count = count }) >>=
    (λ ws. ended (read_on (vertex_lines (record { nets = m; vertices = n; net_weights = net_weights; vertex_weights = vertex_weights }))
    (record { kept = rest; count = count })).kept (made_of n nets ws))

tail-read : (m count start : ℕ) (net_weights vertex_weights : Bool) (nets : List Net) (ws : List ℕ) → All (λ w. w < 2 ^ 32) ws →
    (vertex_weights ≡ false → All (λ w. not (eqb w 1) ≡ false) ws) → tail_in m (length ws) net_weights vertex_weights count nets
    (map numbers_kept (enumerate_from start (weight_lines vertex_weights ws))) ≡ Ok (made_of (length ws) nets ws)
tail-read m count start net_weights true nets ws small ones =
    let kept = map numbers_kept (enumerate_from start (map (λ w. w ∷ []) ws)) in
    let all : length kept ≡ length ws = length-kept start (map (λ w. w ∷ []) ws) ∙ length-map ws (λ w. w ∷ []) in
    let read : each vertex_in (take (length ws) kept) ≡ Ok ws = ap (each vertex_in) (take_all (length ws) kept (omega arith)) ∙
    weights-read start ws small in
    let none : drop (length ws) kept ≡ [] = ap (λ n. drop n kept) (sym all) ∙ drop-length kept in
    first (first_in (length ws) (each vertex_in) (record { kept = kept; count = count }))
    (λ vs. ended (drop (length ws) kept) (made_of (length ws) nets vs))
    ws (first-read (length ws) (each vertex_in) (record { kept = kept; count = count }) ws read (omega arith))
    ∙ ap (λ (ls : List Line). ended ls (made_of (length ws) nets ws)) none
tail-read m count start net_weights false nets ws small ones =
    ap (λ (vs : List ℕ). Ok (made_of (length ws) nets vs)) (all_ones ws (ones refl))

body-read : (count start : ℕ) (net_weights vertex_weights : Bool) (nets : List Net) (ws : List ℕ) → length ws ≤ 2 ^ 22 →
    AreReadable net_weights (length ws) 0
    nets → All (λ w. w < 2 ^ 32) ws → (vertex_weights ≡ false → All (λ w. not (eqb w 1) ≡ false) ws) →
    body_in (record { nets = length nets; vertices = length ws; net_weights = net_weights; vertex_weights = vertex_weights })
    (record { kept = map numbers_kept (enumerate_from start (map (net_numbers net_weights) nets ++ weight_lines vertex_weights ws)); count = count }) ≡ Ok
    (made_of (length ws) nets ws)
body-read count start net_weights vertex_weights nets ws few are small ones =
    let net_lines = map numbers_kept (enumerate_from start (map (net_numbers net_weights) nets)) in
    let rest = map numbers_kept (enumerate_from (start + length (map (net_numbers net_weights) nets)) (weight_lines vertex_weights ws)) in
    let all : length net_lines ≡ length nets = length-kept start (map (net_numbers net_weights) nets) ∙ length-map nets (net_numbers net_weights) in
    let front : take (length nets) (net_lines ++ rest) ≡ net_lines = ap (λ n. take n (net_lines ++ rest)) (sym all) ∙ take-append_seam net_lines rest in
    let back : drop (length nets) (net_lines ++ rest) ≡ rest = ap (λ n. drop n (net_lines ++ rest)) (sym all) ∙ drop-append_seam net_lines rest in
    let read : nets_in (record { nets = length nets; vertices = length ws; net_weights = net_weights; vertex_weights = vertex_weights })
    (take (length nets) (net_lines ++ rest)) ≡ Ok nets =
    ap (nets_in (record { nets = length nets; vertices = length ws; net_weights = net_weights; vertex_weights = vertex_weights })) front ∙
    nets-read (length nets) (length ws) start 0 net_weights vertex_weights nets few are in
    ap (λ (ls : List Line). body_in (record { nets = length nets; vertices = length ws; net_weights = net_weights; vertex_weights = vertex_weights })
    (record { kept = ls; count = count })) (kept-append start (map (net_numbers net_weights) nets) (weight_lines vertex_weights ws))
    ∙ first (first_in (length nets) (nets_in (record {
      nets = length nets;
      vertices = length ws;
      net_weights = net_weights;
      vertex_weights = vertex_weights;
    }))
    (record { kept = net_lines ++ rest; count = count })) (λ es. tail_in (length nets) (length ws) net_weights vertex_weights count es
    (drop (length nets) (net_lines ++ rest))) nets
    (first-read (length nets) (nets_in (record { nets = length nets; vertices = length ws; net_weights = net_weights; vertex_weights = vertex_weights }))
    (record { kept = net_lines ++ rest; count = count }) nets read (omega (arith, all, length-append net_lines rest)))
    ∙ ap (tail_in (length nets) (length ws) net_weights vertex_weights count nets) back
    ∙ tail-read (length nets) count (start + length (map (net_numbers net_weights) nets)) net_weights vertex_weights nets ws small ones

-- ---- the whole

format-small : (net_weights vertex_weights : Bool) → All (λ m. m < 2 ^ 64) (format net_weights vertex_weights)
format-small true true = All-cons (λ m. m < 2 ^ 64) 11 [] (lit< tt) (All-nil (λ m. m < 2 ^ 64))
format-small true false = All-cons (λ m. m < 2 ^ 64) 1 [] (lit< tt) (All-nil (λ m. m < 2 ^ 64))
format-small false true = All-cons (λ m. m < 2 ^ 64) 10 [] (lit< tt) (All-nil (λ m. m < 2 ^ 64))
format-small false false = All-nil (λ m. m < 2 ^ 64)

nets-writable : (h : Hyper) → IsWritable h → All (IsNetWritable (are_nets_weighted h) (vertex_count h)) h.nets
nets-writable h is k d low =
    record { net = is.sound.nets k d low; small = is.net_weights k d low; one = λ none. none_passes needs_weight h.nets none k d low }

pub hypergraph_is_read_back : HypergraphIsReadBack
hypergraph_is_read_back h is =
    let nw = are_nets_weighted h in
    let vw = are_vertices_weighted h in
    let bytes = hypergraph_text h in
    let count = length (lines bytes) in
    let bounds = is.bounds in
    let few_nets : net_count h ≤ 2 ^ 22 = bounds.nets in
    let few : vertex_count h ≤ 2 ^ 22 = bounds.vertices in
    let nets = nets-writable h is in
    let header : List ℕ = net_count h ∷ vertex_count h ∷ format nw vw in
    let behind = map (net_numbers nw) h.nets ++ weight_lines vw h.weights in
    let head_small : All (λ m. m < 2 ^ 64) header = All-cons (λ m. m < 2 ^ 64) (net_count h) (vertex_count h ∷ format nw vw) (omega arith)
    (All-cons (λ m. m < 2 ^ 64) (vertex_count h) (format nw vw) (omega arith) (format-small nw vw)) in
    let are : AreLines (header ∷ behind) = (
      head_small,
      AreLines-append (map (net_numbers nw) h.nets) (weight_lines vw h.weights)
          (net-lines nw (vertex_count h) h.nets few nets) (weights-lines vw h.weights is.weights),
    ) in
    let kept : kept_from 1 bytes ≡ numbers_kept (1, header) ∷ map numbers_kept (enumerate_from 2 behind) = kept_from-numbers 1 (header ∷ behind) are in
    let fixes : replicate (vertex_count h) FREE ≡ h.fixes = sym (ext_get_or FREE h.fixes (replicate (vertex_count h) FREE)
    (is.sound.fixes ∙ sym (length-replicate (vertex_count h) FREE)) (λ v low. is.free v (subst (λ (n : ℕ). v < n) is.sound.fixes low) ∙
    sym (get_or-replicate (vertex_count h) v FREE FREE (subst (λ (n : ℕ). v < n) is.sound.fixes low)))) in
    let same : made_of (vertex_count h) h.nets h.weights ≡ h = ap₂ (λ (o : Objective) (fs : List ℕ). record {
      weights = h.weights;
      nets = h.nets;
      objective = o;
      fixes = fs;
    }) (sym is.objective) fixes in
    ap (λ (ls : List Line). shape_of (record { kept = ls; count = count }) >>= (λ s. body_in s (read_on 1 (record { kept = ls; count = count })))) kept
    ∙ first (shape_of (record { kept = numbers_kept (1, header) ∷ map numbers_kept (enumerate_from 2 behind); count = count }))
    (λ s. body_in s (record { kept = map numbers_kept (enumerate_from 2 behind); count = count }))
    (record { nets = net_count h; vertices = vertex_count h; net_weights = nw; vertex_weights = vw }) (header-read 1 (net_count h) (vertex_count h) nw vw
    few_nets few)
    ∙ body-read count 2 nw vw h.nets h.weights few (readable nw (vertex_count h) 0 h.nets nets (let p = bounds.pins in omega arith)) is.weights
    (none_passes (λ w. not (eqb w 1)) h.weights)
    ∙ ap Ok same
