use Rattle.std.proofs.Common.{ℕ, List, Bool, [], ◌∷◌, ap, ap₂, map}
use Rattle.std.specs.Prelude.{if◌then◌else◌}
use Rattle.std.specs.List.{flat_map}
use Rattle.hg_defs.specs.Hypergraph.{Hyper, net_count, vertex_count}
use Rattle.part_text.specs.NumberLines.{numbers_line}
use Rattle.hg_make.specs.Text.{are_nets_weighted, are_vertices_weighted, format, net_numbers}
use Rattle.hg_io.proofs.PenLemmas.{wrote, cut, ended, unfinished, spelt}
use Rattle.hg_make.proofs.TextLemmas.{lines-parts}
use Rattle.hg_make.proofs.text.put_hypergraph.Goals as goal

abbrev header : Hyper → Bool → Bool → List ℕ
header h nets vertices = net_count h ∷ vertex_count h ∷ format nets vertices

abbrev net_lines : Hyper → Bool → List (List ℕ)
net_lines h weighted = map (net_numbers weighted) h.nets

abbrev weight_lines : Hyper → Bool → List (List ℕ)
weight_lines h weighted = if weighted then map (λ w. w ∷ []) h.weights else []

pub returns-in_err-put_header-clause-bytes : goal.returns-in_err-put_header-clause-bytes
returns-in_err-put_header-clause-bytes g c =
    let h = c.args.h.now in
    let nets = c.has_weighted_nets-net_weights.ensures in
    let vertices = c.has_weighted_vertices-vertex_weights.ensures in
    unfinished c.from_residual.result c.from_residual.ensures.0 c.new-pen.ensures
    (spelt (lines-parts (header h (are_nets_weighted h) (are_vertices_weighted h)) (net_lines h (are_nets_weighted h))
    (weight_lines h (are_vertices_weighted h)))
    (cut (flat_map numbers_line (weight_lines h (are_vertices_weighted h))) (cut (flat_map numbers_line (net_lines h (are_nets_weighted h)))
    (spelt (ap₂ (λ (n v : Bool). numbers_line (header h n v)) nets vertices) c.in_err-put_header.ensures.bytes))))

pub returns-in_err-put_nets-clause-bytes : goal.returns-in_err-put_nets-clause-bytes
returns-in_err-put_nets-clause-bytes g c =
    let h = c.args.h.now in
    let nets = c.has_weighted_nets-net_weights.ensures in
    let vertices = c.has_weighted_vertices-vertex_weights.ensures in
    unfinished c.from_residual-in_err-put_nets.result c.from_residual-in_err-put_nets.ensures.0 c.new-pen.ensures
    (spelt (lines-parts (header h (are_nets_weighted h) (are_vertices_weighted h)) (net_lines h (are_nets_weighted h))
    (weight_lines h (are_vertices_weighted h)))
    (cut (flat_map numbers_line (weight_lines h (are_vertices_weighted h)))
    (wrote (spelt (ap₂ (λ (n v : Bool). numbers_line (header h n v)) nets vertices) c.in_ok-put_header.ensures.bytes)
    (spelt (ap (λ (n : Bool). flat_map numbers_line (net_lines h n)) nets) c.in_err-put_nets.ensures.bytes))))

pub returns-in_err-put_weights-clause-bytes : goal.returns-in_err-put_weights-clause-bytes
returns-in_err-put_weights-clause-bytes g c =
    let h = c.args.h.now in
    let nets = c.has_weighted_nets-net_weights.ensures in
    let vertices = c.has_weighted_vertices-vertex_weights.ensures in
    unfinished c.from_residual-in_err-put_weights.result c.from_residual-in_err-put_weights.ensures.0 c.new-pen.ensures
    (spelt (lines-parts (header h (are_nets_weighted h) (are_vertices_weighted h)) (net_lines h (are_nets_weighted h))
    (weight_lines h (are_vertices_weighted h)))
    (wrote (wrote (spelt (ap₂ (λ (n v : Bool). numbers_line (header h n v)) nets vertices) c.in_ok-put_header.ensures.bytes)
    (spelt (ap (λ (n : Bool). flat_map numbers_line (net_lines h n)) nets) c.in_ok-put_nets.ensures.bytes))
    (spelt (ap (λ (v : Bool). flat_map numbers_line (weight_lines h v)) vertices) c.in_err-put_weights.ensures.bytes)))

pub returns-clause-bytes : goal.returns-clause-bytes
returns-clause-bytes g c =
    let h = c.args.h.now in
    let nets = c.has_weighted_nets-net_weights.ensures in
    let vertices = c.has_weighted_vertices-vertex_weights.ensures in
    ended c.end.result c.new-pen.ensures
    (spelt (lines-parts (header h (are_nets_weighted h) (are_vertices_weighted h)) (net_lines h (are_nets_weighted h))
    (weight_lines h (are_vertices_weighted h)))
    (wrote (wrote (spelt (ap₂ (λ (n v : Bool). numbers_line (header h n v)) nets vertices) c.in_ok-put_header.ensures.bytes)
    (spelt (ap (λ (n : Bool). flat_map numbers_line (net_lines h n)) nets) c.in_ok-put_nets.ensures.bytes))
    (spelt (ap (λ (v : Bool). flat_map numbers_line (weight_lines h v)) vertices) c.in_ok-put_weights.ensures.bytes))) c.end.ensures.bytes
