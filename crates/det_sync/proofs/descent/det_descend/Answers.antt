use Rattle.std.proofs.Common.{◌≡◌, ◌≤◌, ◌∙◌, ℕ, List, [], length, sym, ap, subst, refl, arith}
use Rattle.hg_defs.specs.Hypergraph.{Hyper, IsHypergraph, IsFixedWithin, Suits}
use Rattle.hg_defs.specs.Levels.{level}
use Rattle.hg_defs.specs.Partition.{Fits}
use Rattle.level_stack.specs.Down.{Down}
use Rattle.level_stack.proofs.DownLaws.{level_there}
use Rattle.pin_plain.specs.Parted.{Parted}
use Rattle.round_log.specs.declared.record.LoggedRound.{LoggedRound}
use Rattle.det_sync.specs.Descent.{LogsDescent}
use Rattle.det_sync.proofs.DescentLaws.{all_fixed, descent_is, function_is, sound_is, logged_as}
use Rattle.det_sync.proofs.descent.det_descend.Goals as goal

pub first_placed-requires-clause-fixed : goal.first_placed-requires-clause-fixed
first_placed-requires-clause-fixed g c κs within =
    all_fixed c.args.stack.base c.args.k c.args.stack.maps (subst IsHypergraph c.level-file.ensures c.vertices-vertices.ensures.sound)
    c.requires.levels.contracted c.requires.fixed

pub sync_down-requires-clause-number : goal.sync_down-requires-clause-number
sync_down-requires-clause-number g c κs within = ap (λ (d : Down). d.number) (sym c.in_ok-levels.ensures)

pub sync_down-requires-clause-level : goal.sync_down-requires-clause-level
sync_down-requires-clause-level g c κs within =
    subst (λ (d : Down). c.in_ok-start.start ≤ length d.maps) (sym c.in_ok-levels.ensures) c.in_ok-start.ensures.start.on_level

pub sync_down-requires-clause-belongs : goal.sync_down-requires-clause-belongs
sync_down-requires-clause-belongs g c κs within =
    ap (λ (x : Parted). x.hyper) c.in_ok-placed.ensures ∙ c.level.ensures
    ∙ ap (λ (d : Down). level c.in_ok-levels.levels.base c.in_ok-levels.levels.maps d.number) c.in_ok-levels.ensures

pub sync_down-requires-clause-fits : goal.sync_down-requires-clause-fits
sync_down-requires-clause-fits g c κs within =
    let base = c.args.stack.base in
    let maps = c.args.stack.maps in
    let k = c.args.k in
    let limit = c.args.limit in
    let start = c.in_ok-start.start in
    let there = level_there base maps c.in_ok-levels.levels start c.level.result.now c.in_ok-levels.ensures c.level.ensures in
    let made : c.in_ok-placed.placed ≡ record { hyper = level base maps start; k = k; limit = limit; blocks = c.in_ok-start.first } =
    c.in_ok-placed.ensures
    ∙ ap (λ (h : Hyper). let p : Parted = record { hyper = h; k = k; limit = limit; blocks = c.in_ok-blocks.blocks } in p) there
    ∙ ap (λ (bs : List ℕ). let p : Parted = record { hyper = level base maps start; k = k; limit = limit; blocks = bs } in p) c.in_ok-blocks.ensures in
    subst (λ (p : Parted). Fits p.hyper p.k p.limit p.blocks) (sym made) c.in_ok-start.ensures.start.sound.fits

pub sync_down-requires-clause-suits : goal.sync_down-requires-clause-suits
sync_down-requires-clause-suits g c κs within =
    let k = sym (ap (λ (x : Parted). x.k) c.in_ok-placed.ensures) in
    subst (λ (d : Down). (i : ℕ) → i ≤ length d.maps → Suits (level d.base d.maps i) c.in_ok-placed.placed.k) (sym c.in_ok-levels.ensures)
    (subst (λ (n : ℕ). (i : ℕ) → i ≤ length c.args.stack.maps → Suits (level c.args.stack.base c.args.stack.maps i) n) k c.requires.suits)

pub sync_down-requires-clause-fixed : goal.sync_down-requires-clause-fixed
sync_down-requires-clause-fixed g c κs within =
    let k = sym (ap (λ (x : Parted). x.k) c.in_ok-placed.ensures) in
    subst (λ (d : Down). (i : ℕ) → i ≤ length d.maps → IsFixedWithin (level d.base d.maps i) c.in_ok-placed.placed.k) (sym c.in_ok-levels.ensures)
    (subst (λ (n : ℕ). (i : ℕ) → i ≤ length c.args.stack.maps → IsFixedWithin (level c.args.stack.base c.args.stack.maps i) n) k
    (all_fixed c.args.stack.base c.args.k c.args.stack.maps (subst IsHypergraph c.level-file.ensures c.vertices-vertices.ensures.sound)
    c.requires.levels.contracted c.requires.fixed))

pub returns-clause-hypergraph : goal.returns-clause-hypergraph
returns-clause-hypergraph g c = c.in_ok-base.ensures.base ∙ ap (λ (d : Down). d.base) c.in_ok-levels.ensures

pub returns-clause-partition : goal.returns-clause-partition
returns-clause-partition g c =
    let p = c.in_ok-base.p in
    let placed = c.in_ok-placed.placed in
    let last : c.from_vec-last.result ≡ p.blocks = c.from_vec-last.ensures ∙ c.in_ok-copied.ensures.items ∙ c.blocks-reached.ensures.value in
    c.in_ok-base.ensures.partition
    ∙ ap (λ (d : Down). let q : Parted = record { hyper = d.base; k = placed.k; limit = placed.limit; blocks = p.blocks } in q) c.in_ok-levels.ensures
    ∙ ap (λ (x : Parted). let q : Parted = record { hyper = c.args.stack.base; k = x.k; limit = x.limit; blocks = p.blocks } in q) c.in_ok-placed.ensures
    ∙ ap (λ (bs : List ℕ). let q : Parted = record { hyper = c.args.stack.base; k = c.args.k; limit = c.args.limit; blocks = bs } in q) (sym last)

pub returns-clause-trace : goal.returns-clause-trace
returns-clause-trace g c =
    let base = c.args.stack.base in
    let maps = c.args.stack.maps in
    let workers = c.args.workers in
    let start = c.in_ok-start.start in
    let made : c.in_ok-placed.placed ≡ record { hyper = c.level.result.now; k = c.args.k; limit = c.args.limit; blocks = c.in_ok-start.first } =
    c.in_ok-placed.ensures
    ∙ ap (λ (bs : List ℕ). record { hyper = c.level.result.now; k = c.args.k; limit = c.args.limit; blocks = bs }) c.in_ok-blocks.ensures in
    let last : c.from_vec-last.result ≡ c.in_ok-base.p.blocks = c.from_vec-last.ensures ∙ c.in_ok-copied.ensures.items ∙ c.blocks-reached.ensures.value in
    let placed = c.in_ok-placed.placed in
    let new = c.sync_down.new.log in
    let logs = logged_as base maps c.args.k c.args.limit workers start c.in_ok-start.first c.from_vec-last.result c.level.result.now placed new made
    (subst (λ (q : List ℕ). LogsDescent base maps placed.k placed.limit workers start placed.blocks q [] new) (sym last)
    (subst (λ (old : List LoggedRound). LogsDescent base maps placed.k placed.limit workers start placed.blocks c.in_ok-base.p.blocks old new)
    c.new-rounds.ensures
    (subst (λ (d : Down). LogsDescent d.base d.maps placed.k placed.limit workers start placed.blocks c.in_ok-base.p.blocks c.new-rounds.result new)
    c.in_ok-levels.ensures c.in_ok-base.ensures.rounds))) in
    descent_is base c.args.k c.args.limit c.args.seed workers maps c.args.stop _
    (c.in_ok-base.ensures.maps ∙ ap (λ (d : Down). d.maps) c.in_ok-levels.ensures) refl c.in_ok-start.ensures.start logs

pub returns-clause-function : goal.returns-clause-function
returns-clause-function g c =
    function_is c.args.stack.base c.args.k c.args.limit c.args.seed c.args.workers c.args.stack.maps c.args.stop _ c.requires.levels
    (returns-clause-trace g c)

pub returns-clause-sound : goal.returns-clause-sound
returns-clause-sound g c =
    sound_is c.args.stack.base c.args.k c.args.limit c.args.seed c.args.workers c.args.stack.maps c.args.stop _ (omega (arith, c.requires.some))
    (subst IsHypergraph c.level-file.ensures c.vertices-vertices.ensures.sound) c.requires.levels c.in_ok-start.ensures.start (returns-clause-trace g c)
