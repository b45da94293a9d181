use Rattle.ntru_codec.proofs.rows.+encode_row.Given as goal

abbrev pub decreases-encode_row : goal.decreases-encode_row
decreases-encode_row l = l.row.front
