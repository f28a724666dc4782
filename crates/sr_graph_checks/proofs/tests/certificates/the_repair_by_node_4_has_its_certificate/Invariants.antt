use Rattle.sr_graph_checks.proofs.tests.certificates.the_repair_by_node_4_has_its_certificate.Given as goal

abbrev pub ghosts-issued : goal.ghosts-issued
ghosts-issued g a = record { name = a.blank.name; parts = a.blank.parts }
