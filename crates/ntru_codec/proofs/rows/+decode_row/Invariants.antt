use Rattle.ntru_codec.proofs.rows.+decode_row.Given as goal

abbrev pub decreases-decode_row : goal.decreases-decode_row
decreases-decode_row l = l.row.front
