use Rattle.dc_transform.proofs.transform.+go_backward_by_two.Given as goal

abbrev pub decreases-go_backward_by_two : goal.decreases-go_backward_by_two
decreases-go_backward_by_two l = l.depth
