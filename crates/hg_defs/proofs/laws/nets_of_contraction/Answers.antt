use Rattle.hg_defs.proofs.NetLaws.{image_rises, image_has_clusters, nets_are_images, images_are_nets, nets_rise, nets_weigh_together}
use Rattle.hg_defs.proofs.laws.nets_of_contraction.Goals as goal

pub returns-clause-rising : goal.returns-clause-rising
returns-clause-rising c = image_rises

pub returns-clause-clusters : goal.returns-clause-clusters
returns-clause-clusters c = image_has_clusters

pub returns-clause-images : goal.returns-clause-images
returns-clause-images c = nets_are_images

pub returns-clause-each : goal.returns-clause-each
returns-clause-each c = images_are_nets

pub returns-clause-once : goal.returns-clause-once
returns-clause-once c = nets_rise

pub returns-clause-weights : goal.returns-clause-weights
returns-clause-weights c = nets_weigh_together
