use Rattle.vs_test_cluster.proofs.tests.settle.settles_a_bucket_on_its_way.Given as goal

abbrev pub ghosts-settle_counted : goal.ghosts-settle_counted
ghosts-settle_counted g a = record { name = a.blank.name; parts = a.blank.parts }
