use Rattle.flow_control.proofs.Packets.{one_header, units_few, goes, first_is_enough}
use Rattle.flow_control.proofs.laws.limits_let_each_packet_go.Goals as goal

pub returns : goal.returns
returns c = record { header = one_header; units = units_few; goes = goes; first = first_is_enough }
