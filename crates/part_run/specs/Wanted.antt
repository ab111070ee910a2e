-- The command that the words of a command line spell.
use Rattle.std.specs.Prelude.{ℕ, ◌+◌, ◌-◌, ◌*◌, ◌^◌, List, [], ◌∷◌, length, Bool, not, ◌&&◌, ◌==◌, nat_lt, nat_le, if◌then◌else◌, Option}
use Rattle.std.specs.Prelude.{Some, None, Result, Ok, Err, option_map, option_and_then, unwrap_or, codes, bytes_eq}
use Rattle.std.specs.List.{position_or_len, before_first, after_first}
use Rattle.hg_defs.specs.declared.objective.Objective.{Objective}
use Rattle.hg_defs.specs.declared.objective.Objective.TheVariants.{Connectivity, CutNet, ExternalDegree}
use Rattle.hg_text.specs.declared.numeral.BadNumber.{BadNumber}
use Rattle.hg_text.specs.Kept.{number_of, is_filled}
use Rattle.part_run.specs.declared.words.Mode.{Mode}
use Rattle.part_run.specs.declared.words.Mode.TheVariants.{Raced, Deterministic}

-- what `partition` asks for: the graph's name, and the settings with their defaults filled in
pub record Partitioning : Type 0 where
  pub graph : List ℕ
  pub k : ℕ
  pub eps : ℕ
  pub seed : ℕ
  pub workers : ℕ
  pub out : Option (List ℕ)
  pub objective : Objective
  pub fix : Option (List ℕ)
  pub mode : Mode

-- what `evaluate` asks for
pub record Evaluation : Type 0 where
  pub graph : List ℕ
  pub part : List ℕ
  pub k : ℕ
  pub eps : ℕ
  pub objective : Objective

pub data Command : Type 0 where
  Partition : Partitioning → Command
  Evaluate : Evaluation → Command
  Generate : ℕ → Command
  SelfRun : ℕ → ℕ → Command

-- the number that a word spells, where it is within bounds
abbrev pub within : ℕ → ℕ → Result ℕ BadNumber → Option ℕ
within low high (Ok n) = if nat_le low n && nat_le n high then Some n else None
within low high (Err e) = None

abbrev pub number_within : ℕ → ℕ → List ℕ → Option ℕ
number_within low high word = within low high (number_of word)

-- the thousandths that one, two or three digits behind a point stand for
abbrev pub fraction_of : List ℕ → Option ℕ
fraction_of (a ∷ []) = option_map (λ n. n * 100) (number_within 0 999 (a ∷ []))
fraction_of (a ∷ b ∷ []) = option_map (λ n. n * 10) (number_within 0 999 (a ∷ b ∷ []))
fraction_of (a ∷ b ∷ c ∷ []) = number_within 0 999 (a ∷ b ∷ c ∷ [])
fraction_of _ = None

-- a point parts an imbalance
abbrev pub is_point : ℕ → Bool
is_point byte = byte == 46

-- an imbalance of whole and thousandth parts: at most 100, in thousandths
abbrev pub in_thousandths : Option ℕ → Option ℕ → Option ℕ
in_thousandths None part = None
in_thousandths (Some whole) None = None
in_thousandths (Some whole) (Some part) = if nat_le (whole * 1000 + part) 100000 then Some (whole * 1000 + part) else None

-- the imbalance that a word spells: digits, and where it has a point, one to three digits behind it
abbrev pub imbalance : List ℕ → Option ℕ
imbalance word =
    in_thousandths
    (number_within 0 100 (before_first is_point word))
    (if nat_lt (position_or_len is_point word) (length word) then fraction_of (after_first is_point word) else Some 0)

-- an equals sign parts a setting's key from its value
abbrev pub is_equals : ℕ → Bool
is_equals byte = byte == 61

-- the name of a file: any word but the empty one
abbrev pub file_name : List ℕ → Option (List ℕ)
file_name word = if is_filled word then Some word else None

-- the same, where the standard streams are left out
abbrev pub plain_name : List ℕ → Option (List ℕ)
plain_name word = if is_filled word && not (bytes_eq word (codes "-")) then Some word else None

abbrev pub objective_of : List ℕ → Option Objective
objective_of word =
    if bytes_eq word (codes "km1") then Some Connectivity else
    if bytes_eq word (codes "cut") then Some CutNet else
    if bytes_eq word (codes "soed") then Some ExternalDegree else None

-- the mode that has a name
abbrev pub named_mode : List ℕ → Option Mode
named_mode word = if bytes_eq word (codes "det") then Some Deterministic else None

-- the mode in which so many cycles, eight at most, follow the first descent
abbrev pub raced_mode : List ℕ → Option Mode
raced_mode word = option_map Raced (number_within 0 8 word)

-- what the words behind the imbalance set; nothing at first
pub record Settings : Type 0 where
  pub seed : Option ℕ
  pub workers : Option ℕ
  pub out : Option (List ℕ)
  pub cost : Option Objective
  pub fix : Option (List ℕ)
  pub mode : Option Mode

abbrev pub no_settings : Settings
no_settings = record { seed = None; workers = None; out = None; cost = None; fix = None; mode = None }

-- a value for a setting that was not set before
abbrev pub if_unset : {A B : Type 0} → Option A → Option B → Option B
if_unset None value = value
if_unset (Some old) value = None

-- the settings with that of one more word, `key=value`; each key stands once at most, and one of the two that set the mode
abbrev pub with_word : Settings → List ℕ → Option Settings
with_word s word =
    let key = before_first is_equals word in
    let value = after_first is_equals word in
    if nat_le (length word) (position_or_len is_equals word) then None else
    if bytes_eq key (codes "seed") then option_map (λ n. record s { seed = Some n }) (if_unset s.seed (number_within 0 (2 ^ 64 - 1) value)) else
    if bytes_eq key (codes "workers") then option_map (λ n. record s { workers = Some n }) (if_unset s.workers (number_within 1 64 value)) else
    if bytes_eq key (codes "out") then option_map (λ n. record s { out = Some n }) (if_unset s.out (file_name value)) else
    if bytes_eq key (codes "cost") then option_map (λ o. record s { cost = Some o }) (if_unset s.cost (objective_of value)) else
    if bytes_eq key (codes "fix") then option_map (λ n. record s { fix = Some n }) (if_unset s.fix (plain_name value)) else
    if bytes_eq key (codes "mode") then option_map (λ m. record s { mode = Some m }) (if_unset s.mode (named_mode value)) else
    if bytes_eq key (codes "cycles") then option_map (λ m. record s { mode = Some m }) (if_unset s.mode (raced_mode value)) else None

abbrev pub with_words : Settings → List (List ℕ) → Option Settings
with_words s [] = Some s
with_words s (word ∷ words) = option_and_then (λ t. with_words t words) (with_word s word)

-- what the words behind `partition` ask for
abbrev pub partitioning_of : List ℕ → ℕ → ℕ → Settings → Partitioning
partitioning_of graph k eps s = record {
  graph = graph;
  k = k;
  eps = eps;
  seed = unwrap_or s.seed 1;
  workers = unwrap_or s.workers 4;
  out = s.out;
  objective = unwrap_or s.cost Connectivity;
  fix = s.fix;
  mode = unwrap_or s.mode (Raced 0);
}

abbrev pub partition_words : List (List ℕ) → Option Partitioning
partition_words (graph ∷ k ∷ eps ∷ words) =
    with_all (file_name graph) (number_within 2 256 k) (imbalance eps) (with_words no_settings words)
  where
    with_all : Option (List ℕ) → Option ℕ → Option ℕ → Option Settings → Option Partitioning
    with_all (Some name) (Some blocks) (Some thousandths) (Some settings) = Some (partitioning_of name blocks thousandths settings)
    with_all _ _ _ _ = None
partition_words _ = None

-- the one setting that `evaluate` has
abbrev pub chosen_objective : List (List ℕ) → Option Objective
chosen_objective [] = Some Connectivity
chosen_objective (word ∷ []) =
    if nat_lt (position_or_len is_equals word) (length word) && bytes_eq (before_first is_equals word) (codes "cost")
    then objective_of (after_first is_equals word)
    else None
chosen_objective _ = None

-- what the words behind `evaluate` ask for
abbrev pub evaluate_words : List (List ℕ) → Option Evaluation
evaluate_words (graph ∷ part ∷ k ∷ eps ∷ words) =
    with_all (file_name graph) (plain_name part) (number_within 2 256 k) (imbalance eps) (chosen_objective words)
  where
    with_all : Option (List ℕ) → Option (List ℕ) → Option ℕ → Option ℕ → Option Objective → Option Evaluation
    with_all (Some name) (Some other) (Some blocks) (Some thousandths) (Some objective) =
        Some (record { graph = name; part = other; k = blocks; eps = thousandths; objective = objective })
    with_all _ _ _ _ _ = None
evaluate_words _ = None

-- what the words behind `generate` ask for: the number of vertices
abbrev pub generate_words : List (List ℕ) → Option ℕ
generate_words (n ∷ []) = number_within 1 (2 ^ 22) n
generate_words _ = None

-- what the words behind `selfrun` ask for: the numbers of vertices and blocks
abbrev pub selfrun_words : List (List ℕ) → Option (ℕ × ℕ)
selfrun_words (n ∷ k ∷ []) = with_both (number_within 1 (2 ^ 22) n) (number_within 2 256 k)
  where
    with_both : Option ℕ → Option ℕ → Option (ℕ × ℕ)
    with_both (Some vertices) (Some blocks) = Some (vertices, blocks)
    with_both _ _ = None
selfrun_words _ = None

-- the command that the words spell, or none
abbrev pub wanted : List (List ℕ) → Option Command
wanted [] = None
wanted (command ∷ words) =
    if bytes_eq command (codes "partition") then option_map Partition (partition_words words) else
    if bytes_eq command (codes "evaluate") then option_map Evaluate (evaluate_words words) else
    if bytes_eq command (codes "generate") then option_map Generate (generate_words words) else
    if bytes_eq command (codes "selfrun") then option_map (λ s. SelfRun s.0 s.1) (selfrun_words words) else None
