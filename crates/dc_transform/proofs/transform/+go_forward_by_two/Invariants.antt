use Rattle.dc_transform.proofs.transform.+go_forward_by_two.Given as goal

abbrev pub decreases-go_forward_by_two : goal.decreases-go_forward_by_two
decreases-go_forward_by_two l = l.depth
