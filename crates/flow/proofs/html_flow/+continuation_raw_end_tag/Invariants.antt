use Rattle.flow.proofs.html_flow.+continuation_raw_end_tag.Given as goal

abbrev pub decreases-continuation_raw_end_tag : goal.decreases-continuation_raw_end_tag
decreases-continuation_raw_end_tag l = l.allowed
